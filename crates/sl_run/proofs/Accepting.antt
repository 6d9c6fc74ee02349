-- The first file of a command that isn't accepted.
use Rattle.std.proofs.Common.{◌≡◌, ◌≤◌, ◌∙◌, ℕ, zero, suc, true, List, [], ◌∷◌, take, refl, sym, ap, subst, inl, inr, arith, Option, Some, None, true≢false}
use Rattle.std.proofs.lemmas.List.Elements.{All-nil, All-cons, All-head, All-tail, All-append}
use Rattle.sl_io.specs.Count.{Rose}
use Rattle.sl_io.specs.Shelf.{Files, KeepsFiles}
use Rattle.sl_codes.specs.declared.faults.Table.{Table}
use Rattle.sl_codes.specs.declared.faults.Table.TheVariants.{Pools, Programmes, Applications}
use Rattle.sl_codes.specs.declared.faults.TableFault.{TableFault}
use Rattle.sl_codes.specs.declared.faults.ReadError.{ReadError}
use Rattle.sl_codes.specs.Faults.{IsFirst}
use Rattle.sl_codes.specs.Records.{rows_of}
use Rattle.sl_pools.specs.Pools.{PoolList, pools_of}
use Rattle.sl_pools.specs.Programmes.{ProgList, programmes_of}
use Rattle.sl_choices.specs.Choices.{ChoiceList, choices_of}
use Rattle.sl_types.specs.declared.kinds.Rule.{Rule}
use Rattle.sl_instance.specs.NamedMarket.{NamedMarket}
use Rattle.sl_instance.specs.Assembly.{IsAssembled}
use Rattle.sl_instance.specs.Causes.{merits_fault}
use Rattle.std.specs.Option.{option_or}
use Rattle.sl_instance.proofs.Once.{assembled_once}
use Rattle.sl_run.specs.declared.failure.Failure.{Failure}
use Rattle.sl_run.specs.declared.failure.Failure.TheVariants.{Words, Refused, TooLong, Unreadable, Unwritable, OutOfMemory}
use Rattle.sl_run.specs.Words.{TableNames, File, Inputs, file_of, letter_rule, tables_and, StandsAt}
use Rattle.sl_run.specs.Accepted.{IsTold, Holds, HoldsFor, Hold, AreHeld, IsRefused, IsTooLong, fault_in, programme_fault, choice_fault, application_fault, pools_in, progs_in}
use Rattle.sl_run.specs.Causes.{IsCause, SomeFile, RoseOf}
use Rattle.sl_run.specs.Failures.{failure_of_read}
use Rattle.sl_run.specs.Fetching.{IsTextOf, Reads, GivesChoices, GivesInstance, IsFileCause}
use Rattle.sl_run.specs.Run.{is_of_files}

-- what a file holds once
pub same_text : (shelf : Files) (name a b : List ℕ) → shelf.contents name ≡ Some a → shelf.contents name ≡ Some b → a ≡ b
same_text shelf name a b ea eb = let e : Some a ≡ Some b = sym ea ∙ eb in cc

-- what is known of an instance before its applications are read, before its programmes are, and before its pools are
abbrev pub with_progs : PoolList → ProgList → NamedMarket
with_progs pools progs = record { market = record { pools = pools.pools; progs = progs.pools; lists = [] }; pool_codes = pools.codes; prog_codes = progs.codes; app_codes = [] }

abbrev pub with_pools : PoolList → NamedMarket
with_pools pools = with_progs pools (record { codes = []; pools = [] })

abbrev pub nothing_read : NamedMarket
nothing_read = with_pools (record { codes = []; pools = [] })

-- a file that a reader refuses
pub read_fails : (table : Table) (first : List ℕ → Option TableFault) (before after : Files) (name : List ℕ) (bytes : List ℕ) (error : ReadError)
    → IsTextOf before name bytes → IsFirst (first bytes) error → IsFileCause table first before after name (failure_of_read error)
read_fails table first before after name bytes (ReadError.Bad fault) of is = inr (fault, refl, (bytes, is, of))
read_fails table first before after name bytes ReadError.OutOfMemory of is = inl (inr (inr refl))

-- the fault of the records of an application table is its fault, and else that of merits in trees is
first_of : (a b : Option TableFault) (fault : TableFault) → a ≡ Some fault → option_or a b ≡ Some fault
first_of a b fault is = rw is refl

later_of : (a b : Option TableFault) (error : ReadError) → a ≡ None → IsFirst b error → IsFirst (option_or a b) error
later_of a b (ReadError.Bad fault) none is = rw none is
later_of a b ReadError.OutOfMemory none is = tt

module _ (before after : Files) (name : List ℕ) (pools : PoolList) (progs : ProgList) where
  -- records that are refused
  pub choices_fail : (failure : Failure) → IsFileCause Applications (choice_fault progs.codes) before after name failure
      → IsFileCause Applications (application_fault pools progs) before after name failure
  choices_fail failure (inl unread) = inl unread
  choices_fail failure (inr (fault, e, (text, is, of))) =
      inr (fault, e, (text, first_of (choice_fault progs.codes text) (merits_fault pools progs (choices_of progs.codes (rows_of text))) fault is, of))

  module _ (choices : ChoiceList) (read : Reads before name (GivesChoices progs.codes choices)) where
    -- merits that are refused
    pub merits_fail : (error : ReadError) → IsFirst (merits_fault pools progs choices) error
        → IsFileCause Applications (application_fault pools progs) before after name (failure_of_read error)
    merits_fail error first =
        let (text, (right, gives), of) = read in
        let here = subst (λ (c : ChoiceList). IsFirst (merits_fault pools progs c) error) (sym gives) first in
        read_fails Applications (application_fault pools progs) before after name text error of
        (later_of (choice_fault progs.codes text) (merits_fault pools progs (choices_of progs.codes (rows_of text))) error right here)

    -- a table that is accepted
    pub instance_read : (n : NamedMarket) → merits_fault pools progs choices ≡ None → IsAssembled pools progs choices n → Reads before name (GivesInstance pools progs n)
    instance_read n none made =
        let (text, (right, gives), of) = read in
        let here : merits_fault pools progs (choices_of progs.codes (rows_of text)) ≡ None = ap (λ (c : ChoiceList). merits_fault pools progs c) gives ∙ none in
        (text, (rw (right, here) refl, subst (λ (c : ChoiceList). IsAssembled pools progs c n) (sym gives) made), of)

module _ (shelf : Files) (rule : Rule) (t : TableNames) where
  abbrev pools_file : File
  pools_file = file_of Pools t.pools

  abbrev progs_file : File
  progs_file = file_of Programmes t.programmes

  abbrev apps_file : File
  apps_file = file_of Applications t.applications

  -- the pools that two instances have in one file, and the programmes
  pub same_pools : (n n' : NamedMarket) → HoldsFor shelf rule n pools_file → HoldsFor shelf rule n' pools_file → pools_in n ≡ pools_in n'
  same_pools n n' (text, told, few, (right, gives)) (text', told', few', (right', gives')) =
      let e = same_text shelf t.pools text' text told' told in
      sym gives ∙ (ap (λ (s : List ℕ). pools_of rule (rows_of s)) (sym e) ∙ gives')

  pub same_programmes : (n n' : NamedMarket) → n.pool_codes ≡ n'.pool_codes → HoldsFor shelf rule n progs_file → HoldsFor shelf rule n' progs_file → progs_in n ≡ progs_in n'
  same_programmes n n' codes (text, told, few, (right, gives)) (text', told', few', (right', gives')) =
      let e = same_text shelf t.programmes text' text told' told in
      let here : programmes_of n.pool_codes (rows_of text) ≡ progs_in n' = rw (codes, sym e) gives' in
      sym gives ∙ here

  one_instance : (n n' : NamedMarket) → pools_in n ≡ pools_in n' → progs_in n ≡ progs_in n' → HoldsFor shelf rule n apps_file → HoldsFor shelf rule n' apps_file → n ≡ n'
  one_instance n n' ps gs (text, told, few, (right, gives)) (text', told', few', (right', gives')) =
      let e = same_text shelf t.applications text' text told' told in
      let codes = ap (λ (g : ProgList). g.codes) gs in
      let here : IsAssembled (pools_in n) (progs_in n) (choices_of n.prog_codes (rows_of text)) n' = rw (ps, gs, codes, sym e) gives' in
      assembled_once (pools_in n) (progs_in n) (choices_of n.prog_codes (rows_of text)) n n' gives here

  -- files that begin with the three tables: those of two instances
  module _ (n n' : NamedMarket) where
    pools_too : (files : List File) → Hold shelf rule n (pools_file ∷ files) → Hold shelf rule n' (pools_file ∷ files) → pools_in n ≡ pools_in n'
    pools_too files h h' = same_pools n n' (All-head (HoldsFor shelf rule n) pools_file files h) (All-head (HoldsFor shelf rule n') pools_file files h')

    progs_too : (files : List File) → Hold shelf rule n (pools_file ∷ progs_file ∷ files) → Hold shelf rule n' (pools_file ∷ progs_file ∷ files) → progs_in n ≡ progs_in n'
    progs_too files h h' =
        let rest = All-tail (HoldsFor shelf rule n) pools_file (progs_file ∷ files) h in
        let rest' = All-tail (HoldsFor shelf rule n') pools_file (progs_file ∷ files) h' in
        same_programmes n n' (ap (λ (p : PoolList). p.codes) (pools_too (progs_file ∷ files) h h'))
        (All-head (HoldsFor shelf rule n) progs_file files rest) (All-head (HoldsFor shelf rule n') progs_file files rest')

    -- files hold the tables of one instance at most
    pub tables_once : (files : List File) → Hold shelf rule n (pools_file ∷ progs_file ∷ apps_file ∷ files) → Hold shelf rule n' (pools_file ∷ progs_file ∷ apps_file ∷ files) → n ≡ n'
    tables_once files h h' =
        let rest = All-tail (HoldsFor shelf rule n) progs_file (apps_file ∷ files) (All-tail (HoldsFor shelf rule n) pools_file (progs_file ∷ apps_file ∷ files) h) in
        let rest' = All-tail (HoldsFor shelf rule n') progs_file (apps_file ∷ files) (All-tail (HoldsFor shelf rule n') pools_file (progs_file ∷ apps_file ∷ files) h') in
        one_instance n n' (pools_too (progs_file ∷ apps_file ∷ files) h h') (progs_too (apps_file ∷ files) h h')
        (All-head (HoldsFor shelf rule n) apps_file files rest) (All-head (HoldsFor shelf rule n') apps_file files rest')

    -- over two instances that have what the files before hold, a file has the same first fault
    pub same_fault : (more : List File) (k : ℕ) (file : File) → StandsAt (tables_and t more) k file
        → Hold shelf rule n (take k (tables_and t more).files) → Hold shelf rule n' (take k (tables_and t more).files)
        → (text : List ℕ) → fault_in rule n file.table text ≡ fault_in rule n' file.table text
    same_fault more zero file at h h' text =
        let e : Some pools_file ≡ Some file = at in
        let is : pools_file ≡ file = cc in
        subst (λ (f : File). fault_in rule n f.table text ≡ fault_in rule n' f.table text) is refl
    same_fault more (suc zero) file at h h' text =
        let e : Some progs_file ≡ Some file = at in
        let is : progs_file ≡ file = cc in
        let codes = ap (λ (p : PoolList). p.codes) (pools_too [] h h') in
        subst (λ (f : File). fault_in rule n f.table text ≡ fault_in rule n' f.table text) is (ap (λ (c : List (List ℕ)). programme_fault c text) codes)
    same_fault more (suc (suc zero)) file at h h' text =
        let e : Some apps_file ≡ Some file = at in
        let is : apps_file ≡ file = cc in
        let ps = pools_too (progs_file ∷ []) h h' in
        let gs = progs_too [] h h' in
        subst (λ (f : File). fault_in rule n f.table text ≡ fault_in rule n' f.table text) is
        (ap (λ (p : PoolList). application_fault p (progs_in n) text) ps ∙ ap (λ (g : ProgList). application_fault (pools_in n') g text) gs)
    same_fault more (suc (suc (suc k))) file at h h' text = ap (λ (m : NamedMarket). fault_in rule m file.table text) (tables_once (take k more) h h')

  -- the instance that was assembled of three tables is theirs
  pub made_of_tables : (pools : PoolList) (progs : ProgList) (n : NamedMarket)
      → HoldsFor shelf rule (with_progs pools progs) pools_file → HoldsFor shelf rule (with_progs pools progs) progs_file
      → Holds shelf t.applications (GivesInstance pools progs n) → Hold shelf rule n (tables_and t []).files
  made_of_tables pools progs n (text, told, few, (right, gives)) (text', told', few', (right', gives')) (text'', told'', few'', (right'', made)) =
      let ps : pools_in n ≡ pools = rw (made.pool_codes, made.pools_are) refl in
      let gs : progs_in n ≡ progs = rw (made.prog_codes, made.progs_are) refl in
      let choices = choices_of progs.codes (rows_of text'') in
      let same : choices_of n.prog_codes (rows_of text'') ≡ choices = rw made.prog_codes refl in
      let own : IsAssembled (pools_in n) (progs_in n) choices n =
      record { pools_are = refl; progs_are = refl; pool_codes = refl; prog_codes = refl; app_codes = made.app_codes; each = made.each; lists = made.lists } in
      let right_here : application_fault (pools_in n) (progs_in n) text'' ≡ None = ap (λ (p : PoolList). application_fault p (progs_in n) text'') ps ∙ (ap (λ (g : ProgList). application_fault pools g text'') gs ∙ right'') in
      let P = HoldsFor shelf rule n in
      All-cons P pools_file (progs_file ∷ apps_file ∷ []) (text, told, few, (right, gives ∙ sym ps))
      (All-cons P progs_file (apps_file ∷ []) (text', told', few', (rw made.pool_codes right', rw made.pool_codes (gives' ∙ sym gs)))
      (All-cons P apps_file [] (text'', told'', few'', (right_here, subst (λ (c : ChoiceList). IsAssembled (pools_in n) (progs_in n) c n) (sym same) own)) (All-nil P)))

  -- one more file
  pub one_more : (n : NamedMarket) (file : File) → Hold shelf rule n (tables_and t []).files → HoldsFor shelf rule n file → Hold shelf rule n (tables_and t (file ∷ [])).files
  one_more n file held here =
      let P = HoldsFor shelf rule n in All-append P (pools_file ∷ progs_file ∷ apps_file ∷ []) (file ∷ []) held (All-cons P file [] here (All-nil P))

  -- and another one
  pub two_more : (n : NamedMarket) (file other : File) → Hold shelf rule n (tables_and t (file ∷ [])).files → HoldsFor shelf rule n other → Hold shelf rule n (tables_and t (file ∷ other ∷ [])).files
  two_more n file other held here =
      let P = HoldsFor shelf rule n in All-append P (pools_file ∷ progs_file ∷ apps_file ∷ file ∷ []) (other ∷ []) held (All-cons P other [] here (All-nil P))

rose_from : (a b now : ℕ) → a ≤ b → Rose b now → Rose a now
rose_from a b now le rose = omega (arith, le, rose)

-- nothing has happened to a shelf
pub keeps_itself : (shelf : Files) → KeepsFiles shelf shelf
keeps_itself shelf = record { still_tells = refl; same = λ name. refl; never_falls = λ name. omega arith }

pub keeps_on : (before mid after : Files) → KeepsFiles before mid → KeepsFiles mid after → KeepsFiles before after
keeps_on before mid after k l = record {
  still_tells = l.still_tells ∙ k.still_tells;
  same = λ (name : List ℕ). l.same name ∙ k.same name;
  never_falls = λ (name : List ℕ). let p = k.never_falls name in let q = l.never_falls name in omega (arith, p, q);
}

-- what is told of the file later was told of it before
pub told_before : (before mid : Files) (name : List ℕ) (P : List ℕ → Type 0) → KeepsFiles before mid → Reads mid name P → IsTold before → Holds before name P
told_before before mid name P k (text, passes, of) t =
    let told = of (k.still_tells ∙ t) in (text, sym (k.same name) ∙ told.0, told.1, passes)

-- a file that wasn't read is the first that isn't accepted
pub file_fails : (before mid after : Files) (inputs : Inputs) (n : NamedMarket) (k : ℕ) (file : File) → KeepsFiles before mid → StandsAt inputs k file
    → (IsTold before → Hold before inputs.rule n (take k inputs.files)) → (failure : Failure)
    → IsFileCause file.table (fault_in inputs.rule n file.table) mid after file.name failure → IsCause inputs before after failure
file_fails before mid after inputs n k file keeps at earlier failure (inl (inl (e, rose))) =
    rw e (k, file, at, (refl, rose_from (before.faults file.name) (mid.faults file.name) (after.faults file.name) (keeps.never_falls file.name) rose, λ t. (n, earlier t)))
file_fails before mid after inputs n k file keeps at earlier failure (inl (inr (inl (e, long)))) =
    rw e (
      k,
      file,
      at,
      (
        refl,
        λ t.
            let much = long (keeps.still_tells ∙ t) in
            record { before = (n, earlier t); told = (much.0, sym (keeps.same file.name) ∙ much.1, much.2) },
      ),
    )
file_fails before mid after inputs n k file keeps at earlier failure (inl (inr (inr e))) = rw e tt
file_fails before mid after inputs n k file keeps at earlier failure (inr (fault, e, reads)) =
    rw e (
      k,
      file,
      at,
      λ t. record {
        n = n;
        before = earlier t;
        first = told_before before mid file.name (λ text. fault_in inputs.rule n file.table text ≡ Some fault) keeps reads t;
      },
    )

-- one of three tables is one of more files, after the same
some_more : (t : TableNames) (more : List File) (P : List File → File → Type 0) → SomeFile (tables_and t []) P → SomeFile (tables_and t more) P
some_more t more P (zero, file, at, p) = (zero, file, at, p)
some_more t more P (suc zero, file, at, p) = (suc zero, file, at, p)
some_more t more P (suc (suc zero), file, at, p) = (suc (suc zero), file, at, p)
some_more t more P (suc (suc (suc k)), file, at, p) = cc at

-- a command reads its tables as one that reads them alone
pub cause_on : (t : TableNames) (more : List File) (before after : Files) (failure : Failure) → is_of_files failure ≡ true
    → IsCause (tables_and t []) before after failure → IsCause (tables_and t more) before after failure
cause_on t more before after Words late cause = cause
cause_on t more before after (Refused fault) late cause =
    some_more t more (λ earlier file. IsTold before → IsRefused before (letter_rule t.letter) earlier file fault) cause
cause_on t more before after (TooLong table) late cause =
    some_more t more (λ earlier file. (file.table ≡ table) × (IsTold before → IsTooLong before (letter_rule t.letter) earlier file)) cause
cause_on t more before after (Unreadable table) late cause = some_more t more
    (λ earlier file. (file.table ≡ table) × RoseOf before after file × (IsTold before → AreHeld before (letter_rule t.letter) earlier)) cause
cause_on t more before after Unwritable late cause = absurd (true≢false (sym late))
cause_on t more before after OutOfMemory late cause = tt

-- one of four files is one of five, after the same
some_further : (t : TableNames) (fourth fifth : File) (P : List File → File → Type 0) → SomeFile (tables_and t (fourth ∷ [])) P → SomeFile (tables_and t (fourth ∷ fifth ∷ [])) P
some_further t fourth fifth P (zero, file, at, p) = (zero, file, at, p)
some_further t fourth fifth P (suc zero, file, at, p) = (suc zero, file, at, p)
some_further t fourth fifth P (suc (suc zero), file, at, p) = (suc (suc zero), file, at, p)
some_further t fourth fifth P (suc (suc (suc zero)), file, at, p) = (suc (suc (suc zero)), file, at, p)
some_further t fourth fifth P (suc (suc (suc (suc k))), file, at, p) = cc at

-- a command with five files reads the first four as one that reads them alone
pub cause_more : (t : TableNames) (fourth fifth : File) (before after : Files) (failure : Failure) → is_of_files failure ≡ true
    → IsCause (tables_and t (fourth ∷ [])) before after failure → IsCause (tables_and t (fourth ∷ fifth ∷ [])) before after failure
cause_more t fourth fifth before after Words late cause = cause
cause_more t fourth fifth before after (Refused fault) late cause =
    some_further t fourth fifth (λ earlier file. IsTold before → IsRefused before (letter_rule t.letter) earlier file fault) cause
cause_more t fourth fifth before after (TooLong table) late cause =
    some_further t fourth fifth (λ earlier file. (file.table ≡ table) × (IsTold before → IsTooLong before (letter_rule t.letter) earlier file)) cause
cause_more t fourth fifth before after (Unreadable table) late cause = some_further t fourth fifth
    (λ earlier file. (file.table ≡ table) × RoseOf before after file × (IsTold before → AreHeld before (letter_rule t.letter) earlier)) cause
cause_more t fourth fifth before after Unwritable late cause = absurd (true≢false (sym late))
cause_more t fourth fifth before after OutOfMemory late cause = tt

-- a file that wasn't read is the cause of a failure of files
pub file_late : (table : Table) (first : List ℕ → Option TableFault) (before after : Files) (name : List ℕ) (failure : Failure) → IsFileCause table first before after name failure → is_of_files failure ≡ true
file_late table first before after name failure (inl (inl (e, rose))) = rw e refl
file_late table first before after name failure (inl (inr (inl (e, long)))) = rw e refl
file_late table first before after name failure (inl (inr (inr e))) = rw e refl
file_late table first before after name failure (inr (fault, e, reads)) = rw e refl
