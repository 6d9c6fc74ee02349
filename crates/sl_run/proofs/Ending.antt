-- How a command ends, by what its files hold.
use Rattle.std.proofs.Common.{◌≡◌, ◌∙◌, ℕ, List, [], ◌∷◌, take, length, refl, sym, ap, subst, inl, inr, arith, Some, None}
use Rattle.std.specs.Prelude.{◌⊎◌, ◌↔◌, true, Option, Any, Result, Ok, Err, IfErr, IfSome, IsErrOf, is_some, option_map, Vec}
use Rattle.std.specs.declared.alloc.Global.{Global}
use Rattle.std.proofs.lemmas.List.Elements.{All-take}
use Rattle.sl_io.specs.Shelf.{Files}
use Rattle.sl_io.specs.Sink.{Output, RoseIn}
use Rattle.sl_check.specs.declared.verdict.Verdict.{Verdict}
use Rattle.sl_check.specs.declared.verdict.Verdict.TheVariants.{Yes}
use Rattle.sl_codes.specs.declared.faults.Table.TheVariants.{Results, Amendments}
use Rattle.sl_codes.specs.declared.faults.TableFault.{TableFault}
use Rattle.sl_instance.specs.NamedMarket.{NamedMarket}
use Rattle.sl_run.specs.declared.failure.Failure.{Failure}
use Rattle.sl_run.specs.declared.failure.Failure.TheVariants.{Words, Refused, TooLong, Unreadable, Unwritable, OutOfMemory}
use Rattle.sl_run.specs.Words.{TableNames, Command, clear, check, watch, amend, print_table, demo, File, file_of, command_of, inputs_of, letter_rule, tables_and, StandsAt, AreWordsOf, IsAmend, IsDemo, IsJudging, is_clearing, AreNoCommand}
use Rattle.sl_run.specs.Accepted.{IsTold, IsToldTo, HoldsFor, Hold, AreAccepted, IsRefused, IsTooLong, IsStop, fault_in}
use Rattle.sl_run.specs.Causes.{RoseOf, RoseUpTo, IsCause, IsCauseOf, Refuses, Completes}
use Rattle.sl_run.specs.Ending.{Ending, ending_of, ending_in, ending_of_amendment, status_of_verdict, EndsWith, IsEnding}
use Rattle.sl_floor.specs.Ending.{Closing}
use Rattle.sl_run.specs.declared.done.Done.{Done}
use Rattle.sl_run.specs.Receipt.{AnswersReceipt, AnswerReceipt, IsOfFloor, IsOfFloorFor}
use Rattle.sl_run.specs.Run.{IsCarriedOut, CarriesOut, CanEndBy, Ends}
use Rattle.sl_run.specs.Failures.{status_of}
use Rattle.sl_run.proofs.Accepting.{same_text, same_fault}
use Rattle.sl_run.proofs.Faultless.{accepted_of}
use Rattle.sl_run.proofs.Places.{any_at, all_at, up_to_stop}

-- the words are those of one command
pub one_command : (words : List (List ℕ)) (c d : Command) → command_of words ≡ Some c → command_of words ≡ Some d → c ≡ d
one_command words c d ec ed = let e : Some c ≡ Some d = sym ec ∙ ed in cc

module _ (shelf : Files) (t : TableNames) (more : List File) (n : NamedMarket) (k : ℕ) (file : File) where
  -- a file that is told once isn't both accepted and too long
  not_long : (earlier : List File) → HoldsFor shelf (letter_rule t.letter) n file → IsTooLong shelf (letter_rule t.letter) earlier file → ⊥
  not_long earlier (text, told, few, passes) long =
      let e : Some text ≡ Some long.told.0 = sym told ∙ long.told.1 in
      let same : text ≡ long.told.0 = cc in
      let sizes = ap length same in
      let much = long.told.2 in
      omega (arith, few, much, sizes)

  -- nor both accepted and refused
  not_refused : (fault : TableFault) → StandsAt (tables_and t more) k file → Hold shelf (letter_rule t.letter) n (take k (tables_and t more).files)
      → HoldsFor shelf (letter_rule t.letter) n file → IsRefused shelf (letter_rule t.letter) (take k (tables_and t more).files) file fault → ⊥
  not_refused fault at before (text, told, few, (right, gives)) refused =
      let rule = letter_rule t.letter in
      let (text', told', few', first) = refused.first in
      let e = same_text shelf file.name text text' told told' in
      let none : fault_in rule n file.table text' ≡ None = subst (λ (s : List ℕ). fault_in rule n file.table s ≡ None) e right in
      let both : Some fault ≡ None = sym first ∙ (same_fault shelf rule t refused.n n more k file at refused.before before text' ∙ none) in
      cc

  -- an accepted file isn't the first that isn't
  not_stop : StandsAt (tables_and t more) k file → Hold shelf (letter_rule t.letter) n (take k (tables_and t more).files)
      → HoldsFor shelf (letter_rule t.letter) n file → IsStop shelf (letter_rule t.letter) (take k (tables_and t more).files) file → ⊥
  not_stop at before here (inl (fault, refused)) = not_refused fault at before here refused
  not_stop at before here (inr long) = not_long (take k (tables_and t more).files) here long

-- the same of a command, each of which reads its tables first
no_stop : (shelf : Files) (command : Command) (n : NamedMarket) (k : ℕ) (file : File) → StandsAt (inputs_of command) k file
    → Hold shelf (inputs_of command).rule n (take k (inputs_of command).files) → HoldsFor shelf (inputs_of command).rule n file
    → IsStop shelf (inputs_of command).rule (take k (inputs_of command).files) file → ⊥
no_stop shelf (clear w t) n k file at before here stop = not_stop shelf t [] n k file at before here stop
no_stop shelf (check t document) n k file at before here stop = not_stop shelf t (file_of Results document ∷ []) n k file at before here stop
no_stop shelf (watch k w t) n j file at before here stop = not_stop shelf t [] n j file at before here stop
no_stop shelf (amend w t document a) n k file at before here stop = not_stop shelf t (file_of Results document ∷ file_of Amendments a ∷ []) n k file at before here stop
no_stop shelf (print_table p t a) n k file at before here stop = not_stop shelf t (file_of Amendments a ∷ []) n k file at before here stop
no_stop shelf (demo a w) n k file at before here stop = cc at

-- where the files are told, they are to each command
told_to : (shelf : Files) (command : Command) → IsTold shelf → IsToldTo shelf command
told_to shelf (clear w t) told = told
told_to shelf (check t document) told = told
told_to shelf (watch k w t) told = told
told_to shelf (amend w t document a) told = told
told_to shelf (print_table p t a) told = told
told_to shelf (demo a w) told = tt

-- where they are told to a command that has a file, they are told
told_with : (shelf : Files) (command : Command) (k : ℕ) (file : File) → StandsAt (inputs_of command) k file → IsToldTo shelf command → IsTold shelf
told_with shelf (clear w t) k file at told = told
told_with shelf (check t document) k file at told = told
told_with shelf (watch looks w t) k file at told = told
told_with shelf (amend w t document a) k file at told = told
told_with shelf (print_table p t a) k file at told = told
told_with shelf (demo a w) k file at told = cc at

-- where all files of a command are accepted, none is the first that isn't
none_stops : (shelf : Files) (command : Command) (n : NamedMarket) (k : ℕ) (file : File) → StandsAt (inputs_of command) k file
    → AreAccepted shelf (inputs_of command) n → IsStop shelf (inputs_of command).rule (take k (inputs_of command).files) file → ⊥
none_stops shelf command n k file at held stop =
    let P = HoldsFor shelf (inputs_of command).rule n in
    no_stop shelf command n k file at (All-take P k (inputs_of command).files held) (all_at P P (inputs_of command).files k file at held) stop

-- where the first file that isn't accepted stands, a failure has status 3 or 6, or a count rose on the way
failure_at : (command : Command) (before after : Files) → IsTold before → (failure : Failure) (k : ℕ) (file : File) → StandsAt (inputs_of command) k file
    → IsCause (inputs_of command) before after failure → IsStop before (inputs_of command).rule (take k (inputs_of command).files) file
    → (status_of failure ≡ 3) ⊎ (status_of failure ≡ 6) ⊎ RoseUpTo before after (take k (inputs_of command).files) file
failure_at command before after told Words k file at cause stop = absurd cause
failure_at command before after told (Refused fault) k file at cause stop = inl refl
failure_at command before after told (TooLong table) k file at cause stop = inl refl
failure_at command before after told (Unreadable table) k file at (j, other, at', (same, rose, held)) stop =
    let (n, earlier) = held told in
    inr (inr (up_to_stop (RoseOf before after) (HoldsFor before (inputs_of command).rule n) (inputs_of command).files j k other file at' at rose earlier
    (λ before_it here. no_stop before command n k file at before_it here stop)))
failure_at command before after told Unwritable k file at cause stop =
    let read = cause told in absurd (none_stops before command read.0 k file at read.1 stop)
failure_at command before after told OutOfMemory k file at cause stop = inr (inl refl)

-- where all files are accepted, a failure has status 6, or a count rose
failure_after : (command : Command) (before after : Files) (out_before out_after : Output) → IsToldTo before command → (n : NamedMarket) (failure : Failure)
    → IsCause (inputs_of command) before after failure → (status_of failure ≡ 5 → RoseIn out_before out_after) → AreAccepted before (inputs_of command) n
    → (status_of failure ≡ 6) ⊎ Any (RoseOf before after) (inputs_of command).files ⊎ RoseIn out_before out_after
failure_after command before after out_before out_after told n Words cause output held = absurd cause
failure_after command before after out_before out_after told n (Refused fault) (k, file, at, of) output held =
    absurd (none_stops before command n k file at held (inl (fault, of (told_with before command k file at told))))
failure_after command before after out_before out_after told n (TooLong table) (k, file, at, (same, of)) output held =
    absurd (none_stops before command n k file at held (inr (of (told_with before command k file at told))))
failure_after command before after out_before out_after told n (Unreadable table) (k, file, at, (same, rose, earlier)) output held =
    inr (inl (any_at (RoseOf before after) (RoseOf before after) (inputs_of command).files k file at rose))
failure_after command before after out_before out_after told n Unwritable cause output held = inr (inr (output refl))
failure_after command before after out_before out_after told n OutOfMemory cause output held = inl refl

module _ (words : List (List ℕ)) (before after : Files) where
  -- files of a command that was carried out
  pub none_refused : (out_before out_after : Output) (HasEnding : Ending → Type 0) (receipt : Option Closing) (status : ℕ)
      → CarriesOut words before out_before out_after HasEnding receipt → Refuses words before after status
  none_refused out_before out_after HasEnding receipt status carried told command e k file at stop =
      let (own, is, out_of) = carried in
      let done = out_of (told_to before own told) in
      let same = one_command words own command is e in
      let held = subst (λ (d : Command). AreAccepted before (inputs_of d) done.n) same done.held in
      absurd (none_stops before command done.n k file at held stop)

  pub refuses : (failure : Failure) → IsCauseOf words before after failure → Refuses words before after (status_of failure)
  refuses failure (inl (is, none)) told command e k file at stop = let no : None ≡ Some command = sym none ∙ e in cc no
  refuses failure (inr (own, is, cause)) told command e k file at stop =
      let same = one_command words own command is e in
      failure_at command before after told failure k file at (subst (λ (d : Command). IsCause (inputs_of d) before after failure) same cause) stop

  pub completes : (out_before out_after : Output) (failure : Failure) → IsCauseOf words before after failure
      → (status_of failure ≡ 5 → RoseIn out_before out_after) → Completes words before after out_before out_after (status_of failure)
  completes out_before out_after failure (inl (is, none)) output command e told faultless = let no : None ≡ Some command = sym none ∙ e in cc no
  completes out_before out_after failure (inr (own, is, cause)) output command e told faultless =
      let same = one_command words own command is e in
      let (n, held) = accepted_of before command faultless in
      inr (failure_after command before after out_before out_after told n failure (subst (λ (d : Command). IsCause (inputs_of d) before after failure) same cause) output held)

  pub completed : (out_before out_after : Output) (ending : Ending) → CanEndBy words ending → Completes words before after out_before out_after ending.status
  completed out_before out_after ending (own, is, (m, verdict, ends)) command e told faultless =
      let same = one_command words own command is e in
      inl (m, verdict, subst (λ (d : Command). ending.status ≡ (ending_of d m verdict).status) same (ap (λ (x : Ending). x.status) (sym ends)))

  -- a command that was carried out ended as one
  pub ended : (status : ℕ) (ending : Ending) (err_before err_after : Output) → CanEndBy words ending → EndsWith status err_before err_after ending
      → Ends words before after err_before err_after status
  ended status ending err_before err_after (command, is, (n, verdict, ends)) so =
      inl (command, n, verdict, is, subst (EndsWith status err_before err_after) (sym ends) so)

zero_or_one : (verdict : Verdict) → (status_of_verdict verdict ≡ 0) ⊎ (status_of_verdict verdict ≡ 1)
zero_or_one Yes = inl refl
zero_or_one verdict = inr refl

amendment_ends : (n : NamedMarket) (verdict : Verdict) → ((ending_of_amendment n verdict).status ≡ 0) ⊎ (((ending_of_amendment n verdict).status ≡ 1) × (is_some (ending_of_amendment n verdict).line ≡ true))
amendment_ends n Yes = inl refl
amendment_ends n verdict = inr (refl, refl)

-- it ended so, where it ended as it was to
pub end_with : (shelf : Files) (command : Command) (IsPut : List ℕ → Type 0) (done : Done) (err_before err_after : Output)
    → IsCarriedOut shelf command IsPut (IsEnding done) done.receipt → EndsWith done.status err_before err_after (ending_in done)
    → IsCarriedOut shelf command IsPut (EndsWith done.status err_before err_after) done.receipt
end_with shelf command IsPut done err_before err_after d so = record {
  n = d.n;
  held = d.held;
  verdict = d.verdict;
  text = d.text;
  comes = d.comes;
  put = d.put;
  ends = subst (EndsWith done.status err_before err_after) (sym d.ends) so;
}

-- with status 0, or with status 1 where it judges a document
pub low_status : (words : List (List ℕ)) (ending : Ending) → CanEndBy words ending → (ending.status ≡ 0) ⊎ ((ending.status ≡ 1) × IsJudging words)
low_status words ending (clear w t, is, (n, verdict, ends)) = inl (sym (ap (λ (x : Ending). x.status) ends))
low_status words ending (check t document, is, (n, verdict, ends)) = elim (zero_or_one verdict) [
  | inl zero ↦ inl (sym (ap (λ (x : Ending). x.status) ends) ∙ zero)
  | inr one ↦ inr (sym (ap (λ (x : Ending). x.status) ends) ∙ one, (check t document, is, refl))
]
low_status words ending (watch k w t, is, (n, verdict, ends)) = inl (sym (ap (λ (x : Ending). x.status) ends))
low_status words ending (amend w t document a, is, (n, verdict, ends)) = elim (amendment_ends n verdict) [
  | inl zero ↦ inl (sym (ap (λ (x : Ending). x.status) ends) ∙ zero)
  | inr one ↦ inr (sym (ap (λ (x : Ending). x.status) ends) ∙ one.0, (amend w t document a, is, refl))
]
low_status words ending (print_table p t a, is, (n, verdict, ends)) = inl (sym (ap (λ (x : Ending). x.status) ends))
low_status words ending (demo a w, is, (n, verdict, ends)) = inl (sym (ap (λ (x : Ending). x.status) ends))

-- an amendment that ended with status 1 has a line
has_line : (n : NamedMarket) (verdict : Verdict) (ending : Ending) → ending_of_amendment n verdict ≡ ending → ending.status ≡ 1 → is_some ending.line ≡ true
has_line n verdict ending ends one = elim (amendment_ends n verdict) [
  | inl zero ↦ (let none = sym zero ∙ (ap (λ (x : Ending). x.status) ends ∙ one) in absurd (omega (arith, none)))
  | inr both ↦ sym (ap (λ (x : Ending). is_some x.line) ends) ∙ both.1
]

-- a line is there where its text is
some_items : (o : Option (Vec ℕ Global)) → is_some (option_map (λ line. line.items) o) ≡ true → is_some o ≡ true
some_items None e = e
some_items (Some line) e = refl

pub line_there : (done : Done) → is_some (ending_in done).line ≡ true → is_some done.line ≡ true
line_there done e = some_items done.line e

pub unproved_line_of : (words : List (List ℕ)) (ending : Ending) → CanEndBy words ending → IsAmend words → ending.status ≡ 1 → is_some ending.line ≡ true
unproved_line_of words ending (own, is, (n, verdict, ends)) (w, t, document, a, e) one =
    has_line n verdict ending (ap (λ (d : Command). ending_of d n verdict) (sym (one_command words own (amend w t document a) is e)) ∙ ends) one

-- a demo has no file that could be the cause of a failure
demo_cause : (a w : ℕ) (before after : Files) (failure : Failure) → IsCause (inputs_of (demo a w)) before after failure → (status_of failure ≡ 5) ⊎ (status_of failure ≡ 6)
demo_cause a w before after Words cause = absurd cause
demo_cause a w before after (Refused fault) (k, file, at, of) = cc at
demo_cause a w before after (TooLong table) (k, file, at, of) = cc at
demo_cause a w before after (Unreadable table) (k, file, at, of) = cc at
demo_cause a w before after Unwritable cause = inl refl
demo_cause a w before after OutOfMemory cause = inr refl

pub demo_fails : (words : List (List ℕ)) (before after : Files) (failure : Failure) → IsCauseOf words before after failure → IsDemo words → (status_of failure ≡ 5) ⊎ (status_of failure ≡ 6)
demo_fails words before after failure (inl (is, none)) (a, w, e) = let no : None ≡ Some (demo a w) = sym none ∙ e in cc no
demo_fails words before after failure (inr (own, is, cause)) (a, w, e) =
    demo_cause a w before after failure (subst (λ (d : Command). IsCause (inputs_of d) before after failure) (one_command words own (demo a w) is e) cause)

-- where the words are those of a demo, its command has no files
pub demo_files : (words : List (List ℕ)) (command : Command) → AreWordsOf words command → IsDemo words → (inputs_of command).files ≡ []
demo_files words command is (a, w, e) = ap (λ (d : Command). (inputs_of d).files) (one_command words command (demo a w) is e)

-- they end with 0 where it is carried out
pub demo_status : (words : List (List ℕ)) (ending : Ending) → CanEndBy words ending → IsDemo words → ending.status ≡ 0
demo_status words ending (own, is, (n, verdict, ends)) (a, w, e) =
    ap (λ (x : Ending). x.status) (sym ends) ∙ ap (λ (d : Command). (ending_of d n verdict).status) (one_command words own (demo a w) is e)

-- words answer a receipt exactly where their command does
pub receipt_of : (words : List (List ℕ)) (command : Command) → AreWordsOf words command → (status : ℕ) (receipt : Option Closing) → AnswersReceipt command status receipt → AnswerReceipt words status receipt
receipt_of words command is status receipt (to, from) = (
  λ some. let (zero, clearing) = to some in (zero, (command, is, clearing)),
  λ both.
      let (zero, (own, own_is, clearing)) = both in
      from (zero, subst (λ (d : Command). is_clearing d ≡ true) (one_command words own command own_is is) clearing),
)

-- and it is of a floor as their command's is
pub floor_for : (words : List (List ℕ)) (command : Command) → AreWordsOf words command → (receipt : Option Closing) → IfSome receipt (IsOfFloor command) → IfSome receipt (IsOfFloorFor words)
floor_for words command is None floor = tt
floor_for words command is (Some receipt) floor = (command, is, floor)

-- a failure has status 2 exactly where the words are those of no command
other_status : (failure : Failure) → (failure ≡ Words → ⊥) → status_of failure ≡ 2 → ⊥
other_status Words other e = other refl
other_status failure other e = omega (arith, e)

pub no_words : {T : Type 0} (command : Command) (before after : Files) (r : Result T Failure) → IfErr r (IsCause (inputs_of command) before after) → IsErrOf r Words → ⊥
no_words command before after (Ok x) cause failed = cc failed
no_words command before after (Err failure) cause failed =
    let e : Err failure ≡ Err Words = failed in let is : failure ≡ Words = cc in subst (λ (x : Failure). IsCause (inputs_of command) before after x) is cause

pub words_decide : (words : List (List ℕ)) (before after : Files) (failure : Failure) → IsCauseOf words before after failure → (status_of failure ≡ 2) ↔ AreNoCommand words
words_decide words before after failure (inl (is, none)) = (λ e. none, λ no. ap status_of is)
words_decide words before after failure (inr (own, is, cause)) = (
  λ e. absurd (other_status failure (λ f. subst (λ (x : Failure). IsCause (inputs_of own) before after x) f cause) e),
  λ no. let none : None ≡ Some own = sym no ∙ is in cc none,
)
