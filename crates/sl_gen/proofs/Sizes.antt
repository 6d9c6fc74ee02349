-- How many pools, programmes, applicants and choices a generated round has.
use Rattle.std.proofs.Common.{◌≡◌, ◌≤◌, ◌*◌, ℕ, List, map, length, get_or, sum_by, All, ap, arith}
use Rattle.std.specs.List.{range_with_len}
use Rattle.std.proofs.lemmas.List.FromFn.{length-map-range_with_len, get_or-map-range_with_len}
use Rattle.std.proofs.lemmas.List.Sums.{sum_by-le}
use Rattle.sl_types.specs.declared.kinds.Entry.{Entry}
use Rattle.sl_gen.specs.Pools.{pool_count, pool_numbered, prog_count, pool_of_prog}
use Rattle.sl_gen.specs.Choices.{choice_count, choice_numbered, choices_of}
use Rattle.sl_gen.specs.Round.{generated, HasSizes}

pub length-choices_of : (progs a : ℕ) → length (choices_of progs a) ≡ choice_count a
length-choices_of progs a = length-map-range_with_len (choice_numbered progs a) 0 (choice_count a)

-- the lists of n applicants
module _ (progs n : ℕ) where
  abbrev lists : List (List Entry)
  lists = map (choices_of progs) (range_with_len 0 n)

  pub length-lists : length lists ≡ n
  length-lists = length-map-range_with_len (choices_of progs) 0 n

  short : All (λ choices. length choices ≤ 6) lists
  short a d lt =
      let is : get_or lists a d ≡ choices_of progs a = get_or-map-range_with_len (choices_of progs) 0 n a a d (omega (arith, lt, length-lists)) (omega arith) in
      let same = ap (λ (es : List Entry). length es) is in
      omega (arith, same, length-choices_of progs a)

  pub few_choices : sum_by length lists ≤ 6 * n
  few_choices = let sum = sum_by-le (λ (es : List Entry). length es) 6 lists short in omega (arith, sum, length-lists)

pub sizes : (n : ℕ) → HasSizes n (generated n)
unfolding generated
sizes n = record {
  pools = length-map-range_with_len pool_numbered 0 (pool_count n);
  progs = length-map-range_with_len pool_of_prog 0 (prog_count n);
  applicants = length-lists (prog_count n) n;
  choices = few_choices (prog_count n) n;
}
