-- Lists of choices that are in order.
use Rattle.std.proofs.Common.{◌≡◌, ◌≤◌, not, ℕ, Bool, true, false, nat_le, nat_lt, List, length, refl, sym, arith, true≢false}
use Rattle.std.specs.List.{list_all}
use Rattle.std.proofs.lemmas.Bool.{cases_Bool, and_parts, and_from, leb-true, lt-ltb}
use Rattle.sl_types.specs.declared.kinds.Entry.{Entry}
use Rattle.sl_types.specs.declared.kinds.TheConstants.{MAX_LIST}
use Rattle.sl_types.specs.Rules.{rises_from, has_prog_twice}
use Rattle.sl_amend.specs.Applied.{with_choice}
use Rattle.sl_amend.specs.Roll.{is_choice, is_list, IsAddable}
use Rattle.sl_amend.proofs.Ordered.{length-with_choice, all-with_choice, rises-with_choice, once-with_choice}

-- a list that is in order, part by part
pub record IsFine (progs : ℕ) (choices : List Entry) : Type 0 where
  pub short : length choices ≤ MAX_LIST
  pub each : list_all (is_choice progs) choices ≡ true
  pub rises : rises_from 0 choices ≡ true
  pub once : has_prog_twice choices ≡ false

not_false : (b : Bool) → not b ≡ true → b ≡ false
not_false true h = absurd (true≢false (sym h))
not_false false h = refl

pub fine_parts : (progs : ℕ) (choices : List Entry) → is_list progs choices ≡ true → IsFine progs choices
fine_parts progs choices h =
    let a = and_parts (nat_le (length choices) MAX_LIST) _ h in
    let b = and_parts (list_all (is_choice progs) choices) _ a.1 in
    let d = and_parts (rises_from 0 choices) (not (has_prog_twice choices)) b.1 in
    record { short = leb-true (length choices) MAX_LIST a.0; each = b.0; rises = d.0; once = not_false (has_prog_twice choices) d.1 }

pub fine_whole : (progs : ℕ) (choices : List Entry) → IsFine progs choices → is_list progs choices ≡ true
fine_whole progs choices h =
    let short = Rattle.std.proofs.lemmas.Bool.le-leb (length choices) MAX_LIST h.short in
    rw (short, h.each, h.rises, h.once) refl

pub fine-with_choice : (progs : ℕ) (e : Entry) (choices : List Entry) → is_list progs choices ≡ true → IsAddable progs e choices → is_list progs (with_choice e choices) ≡ true
fine-with_choice progs e choices h add =
    let fine = fine_parts progs choices h in
    let a = and_parts (nat_lt e.prog.0 progs) _ add.choice in
    let b = and_parts (nat_le 1 e.place) _ a.1 in
    let low = leb-true 1 e.place b.0 in
    fine_whole progs (with_choice e choices) record {
      short = omega (arith, length-with_choice e choices, add.short);
      each = all-with_choice (is_choice progs) e choices add.choice fine.each;
      rises = rises-with_choice 0 e choices (omega (arith, low)) fine.rises add.place;
      once = once-with_choice e choices fine.once add.prog;
    }
