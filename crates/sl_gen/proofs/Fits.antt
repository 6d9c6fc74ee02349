-- A generated round breaks no rule of an instance.
use Rattle.std.proofs.Common.{◌≡◌, ◌∙◌, ◌<◌, ◌≤◌, ◌+◌, ◌*◌, ◌/◌, ℕ, None, map, List, length, sum_by, nat_le, refl, ap, arith}
use Rattle.std.specs.List.{list_any, range_with_len}
use Rattle.std.proofs.lemmas.List.FromFn.{length-map-range_with_len}
use Rattle.sl_types.specs.declared.kinds.Entry.{Entry}
use Rattle.sl_types.specs.declared.kinds.PoolId.{PoolId}
use Rattle.sl_types.specs.declared.kinds.TheConstants.{MAX_APPLICANTS, MAX_POOLS, MAX_PROGRAMMES, MAX_CHOICES}
use Rattle.sl_types.specs.Market.{Market}
use Rattle.sl_types.specs.Rules.{is_no_pool, is_too_long, has_prog_out, is_out_of_order, has_score_out, has_prog_twice}
use Rattle.sl_types.specs.Valid.{IsValid, size_fault, programme_fault, list_fault, first_in_no_pool, first_too_long, first_prog_out, first_out_of_order, first_score_out, first_prog_twice}
use Rattle.sl_types.proofs.Faultless.{valid_by}
use Rattle.sl_types.specs.declared.kinds.Pool.{Pool}
use Rattle.sl_gen.specs.Pools.{pool_count, pool_numbered, pool_of_prog}
use Rattle.sl_gen.specs.Choices.{choices_of}
use Rattle.sl_gen.specs.Round.{generated}
use Rattle.sl_gen.proofs.Failing.{not_below, not_up_to}
use Rattle.sl_gen.proofs.Numbered.{none_numbered}
use Rattle.sl_gen.proofs.Groups.{market, how_many, no_nesting_fault, no_quota_fault}
use Rattle.sl_gen.proofs.Sizes.{length-lists, few_choices}
use Rattle.sl_gen.proofs.Listed.{not_too_long, no_prog_out, in_order, no_score_out, no_prog_twice}
use Rattle.sl_gen.proofs.MeritPools.{no_merit_fault}

-- a round of so many groups of pools, and so many applicants
module _ (groups n : ℕ) (some : 0 < groups) (few_groups : groups ≤ 1251) (few : n ≤ MAX_APPLICANTS) where
  abbrev progs : List PoolId
  progs = map pool_of_prog (range_with_len 0 (16 * groups))

  abbrev lists : List (List Entry)
  lists = map (choices_of (16 * groups)) (range_with_len 0 n)

  abbrev round : Market
  round = market groups progs lists

  progs_are : length progs ≡ 16 * groups
  progs_are = length-map-range_with_len pool_of_prog 0 (16 * groups)

  no_size_fault : size_fault round ≡ None
  no_size_fault =
      let a = not_below MAX_POOLS (length round.pools) (omega (arith, how_many groups progs lists, few_groups)) in
      let b = not_below MAX_PROGRAMMES (length progs) (omega (arith, progs_are, few_groups)) in
      let c = not_below MAX_APPLICANTS (length lists) (omega (arith, length-lists (16 * groups) n, few)) in
      let d = not_below MAX_CHOICES (sum_by length lists) (omega (arith, few_choices (16 * groups) n, few)) in
      rw (a, b, c, d) refl

  no_programme_fault : programme_fault round ≡ None
  no_programme_fault =
      let none : first_in_no_pool round ≡ None = none_numbered (is_no_pool round) pool_of_prog (16 * groups) (λ g lt.
      not_up_to (length round.pools) (g / 2) (omega (arith, lt, how_many groups progs lists))) in
      rw none refl

  no_list_fault : list_fault round ≡ None
  no_list_fault =
      let long : first_too_long round ≡ None = none_numbered is_too_long (choices_of (16 * groups)) n (λ a lt. not_too_long groups a) in
      let out : first_prog_out round ≡ None = none_numbered (has_prog_out round) (choices_of (16 * groups)) n (λ a lt.
      ap (λ (m : ℕ). list_any (λ e. nat_le m e.prog.0) (choices_of (16 * groups) a)) progs_are ∙ no_prog_out groups a some) in
      let order : first_out_of_order round ≡ None = none_numbered is_out_of_order (choices_of (16 * groups)) n (λ a lt. in_order groups a) in
      let score : first_score_out round ≡ None = none_numbered has_score_out (choices_of (16 * groups)) n (λ a lt. no_score_out groups a) in
      let repeated : first_prog_twice round ≡ None = none_numbered has_prog_twice (choices_of (16 * groups)) n (λ a lt. no_prog_twice groups a) in
      rw (long, out, order, score, repeated) refl

  valid : IsValid round
  valid = valid_by round no_size_fault (no_quota_fault groups progs lists) (no_nesting_fault groups progs lists) no_programme_fault no_list_fault (no_merit_fault groups n some few)

pub fits : (n : ℕ) → n ≤ MAX_APPLICANTS → IsValid (generated n)
unfolding generated
fits n few =
    let progs : 2 * (8 * (1 + n / 400)) ≡ 16 * (1 + n / 400) = omega arith in
    rw progs (valid (1 + n / 400) n (omega arith) (omega (arith, few)) few)

-- the lists that a generated round is made of, where their counts are those of n applicants
pub made : (n count : ℕ) (pools : List Pool) (progs : List PoolId) (lists : List (List Entry)) → count ≡ pool_count n
    → pools ≡ map pool_numbered (range_with_len 0 count) → progs ≡ map pool_of_prog (range_with_len 0 (2 * count))
    → lists ≡ map (choices_of (2 * count)) (range_with_len 0 n)
    → generated n ≡ record { pools = pools; progs = progs; lists = lists }
unfolding generated
made n count pools progs lists counted pools_are progs_are lists_are = rw (pools_are, progs_are, lists_are, counted) refl
