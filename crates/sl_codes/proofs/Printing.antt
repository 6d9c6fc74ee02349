-- Texts that are printed one after another.
use Rattle.std.proofs.Common.{◌≡◌, ◌∙◌, ◌<◌, ◌≤◌, ◌+◌, ℕ, zero, suc, List, [], ◌∷◌, ◌++◌, length, get_or, take, drop, take-append-drop, Option, Some, None, refl, sym, ap, arith, append-nil, append_assoc}
use Rattle.std.specs.Borrow.{MutBor}
use Rattle.std.specs.Io.KnownBytes.{Appends}
use Rattle.std.specs.Prelude.{flat_map, Result, Ok, Err, OnOk, OnErr, IfErr}
use Rattle.std.proofs.lemmas.List.{take_more as take_more_rows, take_all}
use Rattle.std.proofs.lemmas.Grind.{flat_map-append}
use Rattle.std.proofs.lemmas.List.Concat.{flat_map-cons}
use Rattle.sl_io.specs.declared.sink.WriteError.{WriteError}
use Rattle.sl_io.specs.Count.{Rose}
use Rattle.sl_io.specs.Sink.{Output, AppendsPart, Takes, TakesPart}
use Rattle.sl_codes.specs.declared.printer.Printer.{Printer}
use Rattle.sl_codes.specs.Records.{Record}
use Rattle.sl_codes.specs.RecordText.{text_of_record}
use Rattle.sl_codes.specs.Printing.{IsPrinted, KeepsSink, Prints, BreaksOff, PrintsOver, HoldsNothing}

-- one text after another
printed_on : (before between after : Option (List ℕ)) (held more all first later text : List ℕ) → IsPrinted before between more (held ++ first)
    → IsPrinted between after all (more ++ later) → text ≡ first ++ later → IsPrinted before after all (held ++ text)
printed_on None between after held more all first later text h g e = tt
printed_on (Some xs) None after held more all first later text h g e = cc h.1
printed_on (Some xs) (Some ys) after held more all first later text h g e =
    let is : ys ≡ xs ++ h.0 = cc h.1 in (
      h.0 ++ g.0,
      g.1 ∙ ap Some (ap (λ zs. zs ++ g.0) is ∙ append_assoc xs h.0 g.0),
      ap (λ zs. held ++ zs) e ∙ sym (append_assoc held first later) ∙ ap (λ zs. zs ++ later) h.2 ∙ append_assoc h.0 more later
          ∙ ap (λ zs. h.0 ++ zs) g.2 ∙ sym (append_assoc h.0 g.0 all),
    )

-- the first bytes of a list are those of a longer one
take_more : (n : ℕ) (xs ys : List ℕ) → (m : ℕ) × (take n xs ≡ take m (xs ++ ys))
take_more zero xs ys = (zero, refl)
take_more (suc n) [] ys = (zero, refl)
take_more (suc n) (x ∷ xs) ys = let rest = take_more n xs ys in (suc rest.0, ap (λ l. x ∷ l) rest.1)

take_behind : (n : ℕ) (front xs : List ℕ) → front ++ take n xs ≡ take (length front + n) (front ++ xs)
take_behind n [] xs = let e : 0 + n ≡ n = omega arith in rw e refl
take_behind n (x ∷ front) xs =
    let e : suc (length front) + n ≡ suc (length front + n) = omega arith in rw e (ap (λ l. x ∷ l) (take_behind n front xs))

-- a part of a text is one of a longer text
part_of_more : (before after : Option (List ℕ)) (text later whole : List ℕ) → AppendsPart before after text → whole ≡ text ++ later
    → AppendsPart before after whole
part_of_more None after text later whole h e = tt
part_of_more (Some xs) None text later whole h e = h
part_of_more (Some xs) (Some ys) text later whole h e =
    let more = take_more h.0 text later in (more.0, h.1 ∙ ap (λ l. xs ++ l) (more.1 ∙ ap (take more.0) (sym e)))

-- a text that was printed, and then a part of what follows
part_on : (before between after : Option (List ℕ)) (held more first later text : List ℕ) → IsPrinted before between more (held ++ first)
    → AppendsPart between after (more ++ later) → text ≡ first ++ later → AppendsPart before after (held ++ text)
part_on None between after held more first later text h g e = tt
part_on (Some xs) None after held more first later text h g e = cc h.1
part_on (Some xs) (Some ys) None held more first later text h g e = g
part_on (Some xs) (Some ys) (Some zs) held more first later text h g e =
    let is : ys ≡ xs ++ h.0 = cc h.1 in
    let whole : held ++ text ≡ h.0 ++ (more ++ later) =
    ap (λ l. held ++ l) e ∙ sym (append_assoc held first later) ∙ ap (λ l. l ++ later) h.2 ∙ append_assoc h.0 more later in (
      length h.0 + g.0,
      g.1 ∙ ap (λ l. l ++ take g.0 (more ++ later)) is ∙ append_assoc xs h.0 (take g.0 (more ++ later))
          ∙ ap (λ l. xs ++ l) (take_behind g.0 h.0 (more ++ later) ∙ ap (take (length h.0 + g.0)) (sym whole)),
    )

-- all was put
printed_whole : (before after : Option (List ℕ)) (held text : List ℕ) → IsPrinted before after held text → held ≡ [] → Appends before after text
printed_whole None after held text h e = tt
printed_whole (Some xs) None held text h e = cc h.1
printed_whole (Some xs) (Some ys) held text h e =
    let is : ys ≡ xs ++ h.0 = cc h.1 in
    is ∙ ap (λ l. xs ++ l) (sym (h.2 ∙ ap (λ l. h.0 ++ l) e ∙ append-nil h.0))

-- nothing was put yet
printed_none : (taken : Option (List ℕ)) (held : List ℕ) → IsPrinted taken taken held held
printed_none None held = tt
printed_none (Some xs) held = ([], rw (append-nil xs) refl, refl)

-- a count that rose, after counts that didn't fall
rose_on : (before between after : ℕ) → before ≤ between → Rose between after → Rose before after
rose_on before between after le rose = omega (arith, le, rose)

rose_before : (before between after : ℕ) → Rose before between → between ≤ after → Rose before after
rose_before before between after rose le = omega (arith, le, rose)

-- the texts of the first records, and of one more
texts_more : (rows : List Record) (k : ℕ) (row : Record) → k < length rows → get_or rows k [] ≡ row
    → flat_map text_of_record (take (k + 1) rows) ≡ flat_map text_of_record (take k rows) ++ text_of_record row
texts_more rows k row lt is =
    ap (flat_map text_of_record) (take_more_rows rows k [] lt) ∙ flat_map-append text_of_record (take k rows) (get_or rows k [] ∷ [])
    ∙ ap (λ l. flat_map text_of_record (take k rows) ++ l) (flat_map-cons text_of_record (get_or rows k []) [] ∙ append-nil (text_of_record (get_or rows k [])))
    ∙ ap (λ r. flat_map text_of_record (take k rows) ++ text_of_record r) is

module _ {O : Type 0} (output : O → Output) where
  -- a printer keeps its sink from call to call
  pub keeps_none : (a : Printer O) → KeepsSink output a a
  keeps_none a = record { same_sink = refl; never_falls = omega arith }

  pub keeps_on : (a b c : Printer O) → KeepsSink output a b → KeepsSink output b c → KeepsSink output a c
  keeps_on a b c h g = record {
    same_sink = g.same_sink ∙ h.same_sink;
    never_falls = (let first = h.never_falls in let later = g.never_falls in omega (arith, first, later));
  }

  -- nothing is printed
  pub prints_nothing : (a : Printer O) → Prints output a a []
  prints_nothing a = record {
    put = rw (append-nil a.held.now.items) (printed_none (output a.out.now).taken a.held.now.items);
  }

  -- one text after another
  pub prints_on : (a b c : Printer O) (first later text : List ℕ) → Prints output a b first → Prints output b c later → text ≡ first ++ later
      → Prints output a c text
  prints_on a b c first later text h g e = record {
    put = printed_on (output a.out.now).taken (output b.out.now).taken (output c.out.now).taken a.held.now.items b.held.now.items c.held.now.items
        first later text h.put g.put e;
  }

  -- printing breaks off in the first of two texts
  pub breaks_first : (a b : Printer O) (first later text : List ℕ) (error : WriteError) → BreaksOff output a b first error → text ≡ first ++ later
      → BreaksOff output a b text error
  breaks_first a b first later text error h e = record {
    part = part_of_more (output a.out.now).taken (output b.out.now).taken (a.held.now.items ++ first) later (a.held.now.items ++ text) h.part
        (ap (λ l. a.held.now.items ++ l) e ∙ sym (append_assoc a.held.now.items first later));
    cause = h.cause;
  }

  -- or in the second
  pub breaks_on : (a b c : Printer O) (first later text : List ℕ) (error : WriteError) → KeepsSink output a b → Prints output a b first → BreaksOff output b c later error
      → text ≡ first ++ later → BreaksOff output a c text error
  breaks_on a b c first later text error keeps h g e = record {
    part = part_on (output a.out.now).taken (output b.out.now).taken (output c.out.now).taken a.held.now.items b.held.now.items first later text h.put g.part e;
    cause = λ fault. rose_on (output a.out.now).faults (output b.out.now).faults (output c.out.now).faults keeps.never_falls (g.cause fault);
  }

  -- the last of two texts, by how printing it ended
  pub last_printed : {T : Type 0} (r : Result T WriteError) (a b c : Printer O) (first later text : List ℕ) → Prints output a b first
      → text ≡ first ++ later → OnOk r (Prints output b c later) → OnOk r (Prints output a c text)
  last_printed (Ok x) a b c first later text h e g = prints_on a b c first later text h g e
  last_printed (Err error) a b c first later text h e g = tt

  pub last_broken : {T : Type 0} (r : Result T WriteError) (a b c : Printer O) (first later text : List ℕ) → KeepsSink output a b
      → Prints output a b first → text ≡ first ++ later → IfErr r (BreaksOff output b c later) → IfErr r (BreaksOff output a c text)
  last_broken (Ok x) a b c first later text keeps h e g = tt
  last_broken (Err error) a b c first later text keeps h e g = breaks_on a b c first later text error keeps h g e

  -- what a sink took of a text of which nothing is held
  pub takes_all : (sink : MutBor O) (a b : Printer O) (text : List ℕ) → PrintsOver sink a → Prints output a b text → HoldsNothing b
      → Takes (output sink.now) (output b.out.now) text
  takes_all sink a b text over h none =
      let put : IsPrinted (output sink.now).taken (output b.out.now).taken b.held.now.items text = rw (over.nothing_held, over.same) at h.put in
      printed_whole (output sink.now).taken (output b.out.now).taken b.held.now.items text put none

  pub takes_part : (sink : MutBor O) (a b : Printer O) (text : List ℕ) (error : WriteError) → PrintsOver sink a → BreaksOff output a b text error
      → TakesPart (output sink.now) (output b.out.now) text
  takes_part sink a b text error over h = rw (over.nothing_held, over.same) at h.part

  -- what it took after the rest of a text was put, or could not be
  pub takes_text : {T : Type 0} (r : Result T WriteError) (sink : MutBor O) (a b c : Printer O) (text : List ℕ) → PrintsOver sink a → Prints output a b text
      → HoldsNothing c → OnOk r (Prints output b c []) → OnOk r (Takes (output sink.now) (output c.out.now) text)
  takes_text (Ok x) sink a b c text over h none g = takes_all sink a c text over (prints_on a b c text [] text h g (sym (append-nil text))) none
  takes_text (Err error) sink a b c text over h none g = tt

  pub takes_flushed : {T : Type 0} (r : Result T WriteError) (sink : MutBor O) (a b c : Printer O) (text : List ℕ) → PrintsOver sink a → KeepsSink output a b
      → Prints output a b text → IfErr r (BreaksOff output b c []) → OnErr r (TakesPart (output sink.now) (output c.out.now) text)
  takes_flushed (Ok x) sink a b c text over keeps h g = tt
  takes_flushed (Err error) sink a b c text over keeps h g =
      takes_part sink a c text error over (breaks_on a b c text [] text error keeps h g (sym (append-nil text)))

  -- of records one after another, one more
  pub prints_more : (a b c : Printer O) (rows : List Record) (k : ℕ) (row : Record) → k < length rows → get_or rows k [] ≡ row
      → Prints output a b (flat_map text_of_record (take k rows)) → Prints output b c (text_of_record row)
      → Prints output a c (flat_map text_of_record (take (k + 1) rows))
  prints_more a b c rows k row lt is h g = prints_on a b c _ (text_of_record row) _ h g (texts_more rows k row lt is)

  -- or a part of one more
  pub breaks_more : (a b c : Printer O) (rows : List Record) (k : ℕ) (row : Record) (error : WriteError) → k < length rows → get_or rows k [] ≡ row
      → KeepsSink output a b → Prints output a b (flat_map text_of_record (take k rows)) → BreaksOff output b c (text_of_record row) error
      → BreaksOff output a c (flat_map text_of_record rows) error
  breaks_more a b c rows k row error lt is keeps h g =
      breaks_first a c (flat_map text_of_record (take (k + 1) rows)) (flat_map text_of_record (drop (k + 1) rows)) _ error
      (breaks_on a b c (flat_map text_of_record (take k rows)) (text_of_record row) _ error keeps h g (texts_more rows k row lt is)) (texts_rest rows (k + 1))
    where
      texts_rest : (rows : List Record) (k : ℕ) → flat_map text_of_record rows ≡ flat_map text_of_record (take k rows) ++ flat_map text_of_record (drop k rows)
      texts_rest rows k = ap (flat_map text_of_record) (sym (take-append-drop k rows)) ∙ flat_map-append text_of_record (take k rows) (drop k rows)

  -- all of them
  pub prints_all : (a b : Printer O) (rows : List Record) (k : ℕ) → length rows ≤ k → Prints output a b (flat_map text_of_record (take k rows))
      → Prints output a b (flat_map text_of_record rows)
  prints_all a b rows k le h = rw (take_all k rows le) at h
