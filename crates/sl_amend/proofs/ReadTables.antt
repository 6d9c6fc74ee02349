-- Tables that were written are read back, and what tables make, tables can hold.
use Rattle.std.proofs.Common.{◌≡◌, ◌⊎◌, ◌∙◌, ◌<◌, ℕ, List, length, map, drop, get_or, [], refl, ap, arith, inl, inr}
use Rattle.std.specs.Prelude.{codes}
use Rattle.std.specs.Str.{bytes_eq}
use Rattle.std.proofs.lemmas.Bool.{cases_Bool}
use Rattle.std.proofs.lemmas.List.{length-map}
use Rattle.std.proofs.lemmas.List.Elements.{All-map}
use Rattle.std.proofs.lemmas.List.Sorted.{length_permutation}
use Rattle.sl_types.specs.declared.kinds.Pool.{Pool}
use Rattle.sl_types.specs.declared.kinds.Rule.{Rule}
use Rattle.sl_types.specs.declared.kinds.Rule.TheVariants.{Merit}
use Rattle.sl_types.specs.Market.{list_of}
use Rattle.sl_types.proofs.Lists.{get_or_inside}
use Rattle.sl_codes.specs.Faults.{first_fault}
use Rattle.sl_codes.specs.Records.{Record, codes_of, field_of, records_of, rows_of}
use Rattle.sl_pools.specs.Pools.{pool_of, pools_of, first_pool_fault, rule_of_kind}
use Rattle.sl_choices.specs.Choices.{choice_form, choices_of}
use Rattle.sl_choices.specs.Rows.{rows_of_app}
use Rattle.sl_choices.proofs.Whole.{kept_whole}
use Rattle.sl_instance.specs.Assembly.{entry_of}
use Rattle.sl_instance.specs.Causes.{merits_fault}
use Rattle.sl_amend.specs.TableLaws.{pools_in, progs_in, choices_in, TablesReadBack, ReadIsTabular}
use Rattle.sl_amend.proofs.PrintedTables.{pools_printed, applications_printed}
use Rattle.sl_amend.proofs.PoolTable.{pools_right, pools_hold}
use Rattle.sl_amend.proofs.AssembledTable.{applications_right, merits_right, applications_hold}

pub tables_read_back : TablesReadBack
tables_read_back rule n named ok tabular =
    let some = tabular.applies in
    let pools = pools_printed n named in
    let applications = applications_printed n named in
    record {
      pools = record {
        right = ap (first_pool_fault rule) pools ∙ pools_right rule n named ok tabular;
        holds = ap (λ (rs : List Record). pools_of rule (drop 1 rs)) pools ∙ pools_hold rule n named ok tabular;
      };
      applications = record {
        right = ap (first_fault (choice_form n.prog_codes)) applications ∙ applications_right n named ok some;
        merits = ap (λ (rs : List Record). merits_fault (pools_in n) (progs_in n) (choices_of n.prog_codes (drop 1 rs))) applications ∙ merits_right n named ok some;
        holds = rw applications (applications_hold n named ok some);
      };
    }

-- the rule of a pool that was read
own_rule : (rule : Rule) (field : List ℕ) → (rule_of_kind rule field ≡ rule) ⊎ (rule_of_kind rule field ≡ Merit)
own_rule rule field = elim (cases_Bool (bytes_eq field (codes "merit"))) [
  | inl e ↦ inr (rw e refl)
  | inr e ↦ inl (rw e refl)
]

pub read_is_tabular : ReadIsTabular
read_is_tabular rule n pools applications p a =
    let rows = rows_of pools in
    let choices = choices_in n applications in
    let kept = kept_whole n.prog_codes (records_of applications) a.right in
    let read : map (pool_of rule (codes_of rows)) rows ≡ n.market.pools = ap (λ list. list.pools) p.holds in
    record {
      rules = rw (← read) (All-map (λ (pool : Pool). (pool.rule ≡ rule) ⊎ (pool.rule ≡ Merit)) (pool_of rule (codes_of rows)) rows
          (λ k d lt. own_rule rule (field_of (get_or rows k d) 3)));
      applies = λ b d lt.
          let inside : b < length choices.codes = omega (arith, lt, a.holds.each) in
          let own = a.holds.lists b inside in
          let size = length_permutation (map entry_of (rows_of_app b choices.rows)) (list_of n.market b) own.same in
          let count = length-map (rows_of_app b choices.rows) entry_of in
          let present = kept.present b inside in
          let same = ap length (get_or_inside n.market.lists b d [] lt) in
          omega (arith, size, count, present, same);
    }
