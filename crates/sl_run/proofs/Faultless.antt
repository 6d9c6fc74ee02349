-- Files with nothing wrong in them are accepted.
use Rattle.std.proofs.Common.{zero, suc, List, [], ◌∷◌, refl}
use Rattle.std.proofs.lemmas.List.Elements.{All-nil, All-cons}
use Rattle.sl_io.specs.Shelf.{Files}
use Rattle.sl_types.specs.declared.kinds.Rule.{Rule}
use Rattle.sl_codes.specs.declared.faults.Table.TheVariants.{Pools, Programmes, Applications, Results, Amendments}
use Rattle.sl_codes.specs.Records.{records_of, rows_of}
use Rattle.sl_pools.specs.Pools.{pools_of}
use Rattle.sl_pools.specs.Programmes.{programmes_of}
use Rattle.sl_choices.specs.Choices.{choices_of}
use Rattle.sl_choices.proofs.Whole.{kept_whole}
use Rattle.sl_instance.specs.NamedMarket.{NamedMarket}
use Rattle.sl_instance.proofs.Existence.{assembled_of}
use Rattle.sl_run.specs.Words.{TableNames, Command, clear, check, watch, amend, print_table, demo, File, file_of, inputs_of, letter_rule, tables_and}
use Rattle.sl_codes.proofs.FirstFault.{neither}
use Rattle.sl_run.specs.Accepted.{HoldsFor, Hold, AreAccepted, AreHeld, choice_fault}
use Rattle.sl_run.specs.Causes.{AreFaultless}
use Rattle.sl_run.specs.Run.{TablesHaveInstance}
use Rattle.sl_run.proofs.Accepting.{with_progs, with_pools, nothing_read, made_of_tables, one_more, two_more}

module _ (shelf : Files) (t : TableNames) (more : List File) (f : AreFaultless shelf (tables_and t more)) where
  -- the three tables of such files
  tables_held : AreHeld shelf (letter_rule t.letter) (tables_and t []).files
  tables_held =
      let rule = letter_rule t.letter in
      let P = HoldsFor shelf rule in
      let (p, told_p, few_p, right_p) = f zero (file_of Pools t.pools) refl nothing_read (All-nil (P nothing_read)) in
      let pools = pools_of rule (rows_of p) in
      let first : HoldsFor shelf rule (with_pools pools) (file_of Pools t.pools) = (p, told_p, few_p, (right_p, refl)) in
      let before : Hold shelf rule (with_pools pools) (file_of Pools t.pools ∷ []) =
      All-cons (P (with_pools pools)) (file_of Pools t.pools) [] first (All-nil (P (with_pools pools))) in
      let (g, told_g, few_g, right_g) = f (suc zero) (file_of Programmes t.programmes) refl (with_pools pools) before in
      let progs = programmes_of pools.codes (rows_of g) in
      let n = with_progs pools progs in
      let here : HoldsFor shelf rule n (file_of Pools t.pools) = (p, told_p, few_p, (right_p, refl)) in
      let second : HoldsFor shelf rule n (file_of Programmes t.programmes) = (g, told_g, few_g, (right_g, refl)) in
      let both : Hold shelf rule n (file_of Pools t.pools ∷ file_of Programmes t.programmes ∷ []) =
      All-cons (P n) (file_of Pools t.pools) (file_of Programmes t.programmes ∷ []) here
      (All-cons (P n) (file_of Programmes t.programmes) [] second (All-nil (P n))) in
      let (a, told_a, few_a, right_a) = f (suc (suc zero)) (file_of Applications t.applications) refl n both in
      let choices = choices_of progs.codes (rows_of a) in
      let (m, made) = assembled_of pools progs choices (kept_whole progs.codes (records_of a) (neither (choice_fault progs.codes a) _ right_a).0) in
      (m, made_of_tables shelf rule t pools progs m here second (a, told_a, few_a, (right_a, made)))

-- the files of a command
pub accepted_of : (shelf : Files) (command : Command) → AreFaultless shelf (inputs_of command) → (n : NamedMarket) × AreAccepted shelf (inputs_of command) n
accepted_of shelf (clear w t) f = tables_held shelf t [] f
accepted_of shelf (check t document) f =
    let (n, held) = tables_held shelf t (file_of Results document ∷ []) f in
    let (text, told, few, right) = f (suc (suc (suc zero))) (file_of Results document) refl n held in
    (n, one_more shelf (letter_rule t.letter) t n (file_of Results document) held (text, told, few, (right, tt)))
accepted_of shelf (watch k w t) f = tables_held shelf t [] f
accepted_of shelf (amend w t document amendments) f =
    let (n, held) = tables_held shelf t (file_of Results document ∷ file_of Amendments amendments ∷ []) f in
    let result = file_of Results document in
    let rows = file_of Amendments amendments in
    let (text, told, few, right) = f (suc (suc (suc zero))) result refl n held in
    let both = one_more shelf (letter_rule t.letter) t n result held (text, told, few, (right, tt)) in
    let (text', told', few', right') = f (suc (suc (suc (suc zero)))) rows refl n both in
    (n, two_more shelf (letter_rule t.letter) t n result rows both (text', told', few', (right', tt)))
accepted_of shelf (print_table p t amendments) f =
    let (n, held) = tables_held shelf t (file_of Amendments amendments ∷ []) f in
    let (text, told, few, right) = f (suc (suc (suc zero))) (file_of Amendments amendments) refl n held in
    (n, one_more shelf (letter_rule t.letter) t n (file_of Amendments amendments) held (text, told, few, (right, tt)))
accepted_of shelf (demo k w) f = (nothing_read, All-nil (HoldsFor shelf Rule.H nothing_read))

pub tables_have_instance : TablesHaveInstance
tables_have_instance shelf t f = tables_held shelf t [] f
