-- The records of tables one after another.
use Rattle.std.proofs.Common.{◌≡◌, ◌∙◌, ◌<◌, ◌≤◌, ◌+◌, ℕ, zero, suc, List, [], ◌∷◌, ◌++◌, length, map, take, drop, get_or, refl, sym, ap, arith, take-append-drop, append-nil}
use Rattle.std.specs.Prelude.{flat_map, zip}
use Rattle.std.proofs.lemmas.List.{take_more, take_all, length-map}
use Rattle.std.proofs.lemmas.Grind.{flat_map-append}
use Rattle.std.proofs.lemmas.List.Concat.{flat_map-cons}
use Rattle.std.proofs.lemmas.Slice.Zip.{get_or-zip, length-zip}
use Rattle.sl_io.specs.declared.sink.WriteError.{WriteError}
use Rattle.sl_io.specs.Sink.{Output}
use Rattle.sl_types.specs.declared.kinds.Entry.{Entry}
use Rattle.sl_types.specs.declared.kinds.Pool.{Pool}
use Rattle.sl_types.specs.Market.{no_pool, pool_at}
use Rattle.sl_codes.specs.declared.printer.Printer.{Printer}
use Rattle.sl_codes.specs.Records.{Record}
use Rattle.sl_codes.specs.RecordText.{text_of_record}
use Rattle.sl_codes.specs.Printing.{KeepsSink, Prints, BreaksOff}
use Rattle.sl_codes.proofs.Printing.{prints_on, breaks_first, breaks_on}
use Rattle.sl_instance.specs.NamedMarket.{NamedMarket}
use Rattle.sl_amend.specs.Tables.{pool_record, choice_record, own_records, pool_records}

mapped_at : {A : Type 0} (f : A → Record) (xs : List A) (k : ℕ) (d : A) → k < length xs → get_or (map f xs) k [] ≡ f (get_or xs k d)
mapped_at f [] k d lt = absurd (omega (arith, lt))
mapped_at f (x ∷ xs) zero d lt = refl
mapped_at f (x ∷ xs) (suc k) d lt = mapped_at f xs k d (omega (arith, lt))

-- those of the pools, by number
pub pools_length : (n : NamedMarket) → length n.pool_codes ≡ length n.market.pools → length (pool_records n) ≡ length n.market.pools
pools_length n each =
    let pairs = length-zip n.pool_codes n.market.pools in
    length-map (zip n.pool_codes n.market.pools) (λ (p : List ℕ × Pool). pool_record n.pool_codes p.0 p.1) ∙ omega (arith, pairs, each)

pub pool_row : (n : NamedMarket) (k : ℕ) → length n.pool_codes ≡ length n.market.pools → k < length n.market.pools
    → get_or (pool_records n) k [] ≡ pool_record n.pool_codes (get_or n.pool_codes k []) (pool_at n.market k)
pool_row n k each lt =
    let pairs = length-zip n.pool_codes n.market.pools in
    let d : List ℕ × Pool = ([], no_pool) in
    mapped_at (λ (p : List ℕ × Pool). pool_record n.pool_codes p.0 p.1) (zip n.pool_codes n.market.pools) k d (omega (arith, pairs, each, lt))
    ∙ ap (λ (p : List ℕ × Pool). pool_record n.pool_codes p.0 p.1) (get_or-zip n.pool_codes n.market.pools k d (omega (arith, each, lt)) lt)

-- those of an applicant
pub own_length : (progs : List (List ℕ)) (code : List ℕ) (choices : List Entry) → length (own_records progs code choices) ≡ length choices
own_length progs code choices = length-map choices (choice_record progs code)

pub own_row : (progs : List (List ℕ)) (code : List ℕ) (choices : List Entry) (k : ℕ) (d : Entry) → k < length choices
    → get_or (own_records progs code choices) k [] ≡ choice_record progs code (get_or choices k d)
own_row progs code choices k d lt = mapped_at (choice_record progs code) choices k d lt

-- an applicant of the list with their code
pub applicant_at : (apps : List (List ℕ)) (lists : List (List Entry)) (k : ℕ) → k < length apps → k < length lists
    → get_or (zip apps lists) k (get_or apps k [], get_or lists k []) ≡ (get_or apps k [], get_or lists k [])
applicant_at [] lists k lt within = absurd (omega (arith, lt))
applicant_at (a ∷ apps) [] k lt within = absurd (omega (arith, within))
applicant_at (a ∷ apps) (l ∷ lists) zero lt within = refl
applicant_at (a ∷ apps) (l ∷ lists) (suc k) lt within = applicant_at apps lists k (omega (arith, lt)) (omega (arith, within))

-- groups of records, and one more group
more_texts : {A : Type 0} (f : A → List Record) (xs : List A) (k : ℕ) (x : A) → k < length xs → get_or xs k x ≡ x
    → flat_map text_of_record (flat_map f (take (k + 1) xs)) ≡ flat_map text_of_record (flat_map f (take k xs)) ++ flat_map text_of_record (f x)
more_texts f xs k x lt is =
    ap (λ ys. flat_map text_of_record (flat_map f ys)) (take_more xs k x lt ∙ ap (λ y. take k xs ++ y ∷ []) is)
    ∙ ap (flat_map text_of_record) (flat_map-append f (take k xs) (x ∷ []) ∙ ap (λ rs. flat_map f (take k xs) ++ rs) (flat_map-cons f x [] ∙ append-nil (f x)))
    ∙ flat_map-append text_of_record (flat_map f (take k xs)) (f x)

rest_texts : {A : Type 0} (f : A → List Record) (xs : List A) (k : ℕ)
    → flat_map text_of_record (flat_map f xs) ≡ flat_map text_of_record (flat_map f (take k xs)) ++ flat_map text_of_record (flat_map f (drop k xs))
rest_texts f xs k =
    ap (λ ys. flat_map text_of_record (flat_map f ys)) (sym (take-append-drop k xs))
    ∙ ap (flat_map text_of_record) (flat_map-append f (take k xs) (drop k xs))
    ∙ flat_map-append text_of_record (flat_map f (take k xs)) (flat_map f (drop k xs))

module _ {O : Type 0} (output : O → Output) where
  pub prints_group : {A : Type 0} (a b c : Printer O) (f : A → List Record) (xs : List A) (k : ℕ) (x : A) → k < length xs → get_or xs k x ≡ x
      → Prints output a b (flat_map text_of_record (flat_map f (take k xs))) → Prints output b c (flat_map text_of_record (f x))
      → Prints output a c (flat_map text_of_record (flat_map f (take (k + 1) xs)))
  prints_group a b c f xs k x lt is h g = prints_on output a b c _ (flat_map text_of_record (f x)) _ h g (more_texts f xs k x lt is)

  pub breaks_group : {A : Type 0} (a b c : Printer O) (f : A → List Record) (xs : List A) (k : ℕ) (x : A) (error : WriteError) → k < length xs → get_or xs k x ≡ x
      → KeepsSink output a b → Prints output a b (flat_map text_of_record (flat_map f (take k xs))) → BreaksOff output b c (flat_map text_of_record (f x)) error
      → BreaksOff output a c (flat_map text_of_record (flat_map f xs)) error
  breaks_group a b c f xs k x error lt is keeps h g =
      breaks_first output a c (flat_map text_of_record (flat_map f (take (k + 1) xs))) (flat_map text_of_record (flat_map f (drop (k + 1) xs))) _ error
      (breaks_on output a b c (flat_map text_of_record (flat_map f (take k xs))) (flat_map text_of_record (f x)) _ error keeps h g (more_texts f xs k x lt is))
      (rest_texts f xs (k + 1))

  pub prints_groups : {A : Type 0} (a b : Printer O) (f : A → List Record) (xs : List A) (k : ℕ) → length xs ≤ k
      → Prints output a b (flat_map text_of_record (flat_map f (take k xs))) → Prints output a b (flat_map text_of_record (flat_map f xs))
  prints_groups a b f xs k le h = rw (take_all k xs le) at h
