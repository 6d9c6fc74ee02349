-- Bits of words as the flags of a set of pools.
use Rattle.std.proofs.Common.{◌≡◌, ◌≢◌, ℕ, zero, suc, ◌+◌, ◌-◌, ◌*◌, ◌/◌, ◌%◌, ◌^◌, ◌<◌, ◌≤◌, Bool, true, false, min, nat_eq, nat_lt, List, [], ◌∷◌, length, get_or, set, replicate, bit_and, w64, refl, sym, ap, ◌∙◌, inl, inr, arith, length-set, get_or-set_other}
use Rattle.std.specs.Prelude.{slice_index}
use Rattle.std.specs.Int.{bit_at, trailing_zeros}
use Rattle.std.proofs.lemmas.Bool.{cases_eq, cases_lt, lt-ltb}
use Rattle.std.proofs.lemmas.Grind.{get_or-set_at}
use Rattle.std.proofs.lemmas.Nat.Bits.{bit_at-lt, bit_at-zero, bit_at_and, bit_at_ones, bit_at-trailing_zeros, bit_at_mask_inside, bit_at_mask_below, ones_shl}
use Rattle.std.proofs.lemmas.List.{get_or-replicate}
use Rattle.std.proofs.lemmas.List.FromFn.{get_or-map-range_with_len, length-map-range_with_len}
use Rattle.std.proofs.lemmas.List.Sums.{sum_by-set, sum_by-cons}
use lib.ListN.{length-replicate}
use Rattle.sl_core.specs.Machine.{has_any}
use Rattle.sl_core.specs.Parts.{once_if}
use Rattle.sl_core.proofs.Filling.{same_by_each}
use Rattle.sl_floor.specs.Sets.{has_bit, has_pool_bit, flags_in, count_up, AreDownFrom, IsNextUp, IsFirstBit}

-- the bits of a word from a place on
module _ (word from : ℕ) (within : from < 64) where
  abbrev pub high : ℕ
  high = bit_and word (18446744073709551615 * 2 ^ from % 18446744073709551616)

  high_at : (i : ℕ) → bit_at high i ≡ min (bit_at word i) (bit_at (2 ^ 64 - 2 ^ from) i)
  high_at i = ap (λ (m : ℕ). bit_at (bit_and word m) i) (ones_shl 64 from (omega (arith, within))) ∙ bit_at_and word (2 ^ 64 - 2 ^ from) i

  high_inside : (i : ℕ) → from ≤ i → i < 64 → bit_at high i ≡ bit_at word i
  high_inside i low up = let at = high_at i in let one = bit_at_mask_inside from 64 i low up in let two = bit_at-lt word i in omega (arith, at, one, two)

  high_below : (i : ℕ) → i < from → bit_at high i ≡ 0
  high_below i low = let at = high_at i in let none = bit_at_mask_below from 64 i low in omega (arith, at, none)

  pub none_high : high ≡ 0 → (i : ℕ) → from ≤ i → i < 64 → has_bit word i ≡ false
  none_high none i low up =
      let bit : bit_at word i ≡ 0 = sym (high_inside i low up) ∙ (ap (λ (n : ℕ). bit_at n i) none ∙ bit_at-zero i) in
      ap (λ (b : ℕ). nat_eq b 1) bit

  module _ (some : 0 < high) (fits : high < 2 ^ 64) where
    abbrev lowest : ℕ
    lowest = trailing_zeros w64 high

    pub lowest_within : (from ≤ lowest) × (lowest < 64)
    lowest_within =
        let bits = bit_at-trailing_zeros w64 high some fits in (
          elim (cases_lt lowest from) [
            | inl less ↦ let none = high_below lowest less in let one = bits.1 in absurd (omega (arith, none, one))
            | inr more ↦ more
          ],
          bits.0,
        )

    pub lowest_one : has_bit word lowest ≡ true
    lowest_one =
        let bits = bit_at-trailing_zeros w64 high some fits in
        let within' = lowest_within in
        ap (λ (b : ℕ). nat_eq b 1) (sym (high_inside lowest within'.0 within'.1) ∙ bits.1)

    pub lowest_first : (i : ℕ) → from ≤ i → i < lowest → has_bit word i ≡ false
    lowest_first i low less =
        let bits = bit_at-trailing_zeros w64 high some fits in
        let up = lowest_within.1 in
        ap (λ (b : ℕ). nat_eq b 1) (sym (high_inside i low (omega (arith, less, up))) ∙ bits.2 i less)

-- a pool's bit by its word
pub pool_at : (words : List ℕ) (at Q : ℕ) → Q / 64 ≡ at → has_pool_bit words Q ≡ has_bit (slice_index words at) (Q % 64)
pool_at words at Q is = ap (λ (k : ℕ). has_bit (slice_index words k) (Q % 64)) is

-- the search for the first bit, one word at a time
module _ (words : List ℕ) (from : ℕ) where
  abbrev pub HasPassed : ℕ → ℕ → Type 0
  HasPassed at start = (start < 64) × (from ≤ at * 64 + start) × ((Q : ℕ) → from ≤ Q → Q < at * 64 + start → has_pool_bit words Q ≡ false)

  pub passed_none : HasPassed (from / 64) (from % 64)
  passed_none = (omega arith, omega arith, λ Q low up. absurd (omega (arith, low, up)))

  pub passed_more : (at start : ℕ) → HasPassed at start → ((i : ℕ) → start ≤ i → i < 64 → has_bit (slice_index words at) i ≡ false) → HasPassed (at + 1) 0
  passed_more at start p none = let a = p.0 in let b = p.1 in (
    omega arith,
    omega (arith, a, b),
    λ Q low up. elim (cases_lt Q (at * 64 + start)) [
      | inl less ↦ p.2 Q low less
      | inr more ↦ pool_at words at Q (omega (arith, more, up)) ∙ none (Q % 64) (omega (arith, more, up)) (omega arith)
    ],
  )

  pub passed_hit : (at start bit : ℕ) → HasPassed at start → start ≤ bit → bit < 64 → has_bit (slice_index words at) bit ≡ true → ((i : ℕ) → start ≤ i → i < bit → has_bit (slice_index words at) i ≡ false) → IsFirstBit words from (at * 64 + bit)
  passed_hit at start bit p low up one first = let b = p.1 in record {
    past = omega (arith, b, low);
    one = let rest : (at * 64 + bit) % 64 ≡ bit = omega (arith, up) in
        pool_at words at (at * 64 + bit) (omega (arith, up)) ∙ (ap (has_bit (slice_index words at)) rest ∙ one);
    first = λ R past less. elim (cases_lt R (at * 64 + start)) [
      | inl before ↦ p.2 R past before
      | inr more ↦ pool_at words at R (omega (arith, more, less, up)) ∙ first (R % 64) (omega (arith, more, less, up)) (omega (arith, more, less, up))
    ];
  }

-- the flags of so many pools
pub flag_in : (pools : ℕ) (words : List ℕ) (Q : ℕ) → Q < pools → get_or (flags_in pools words) Q false ≡ has_pool_bit words Q
flag_in pools words Q h = get_or-map-range_with_len (has_pool_bit words) 0 pools Q Q false h (omega arith)

pub flags_count : (pools : ℕ) (words : List ℕ) → length (flags_in pools words) ≡ pools
flags_count pools words = length-map-range_with_len (has_pool_bit words) 0 pools

past_false : (flags : List Bool) (Q : ℕ) → length flags ≤ Q → get_or flags Q false ≡ false
past_false [] Q h = refl
past_false (f ∷ fs) zero h = absurd (omega (arith, h))
past_false (f ∷ fs) (suc Q) h = past_false fs Q (omega (arith, h))

pub next_up : (pools : ℕ) (words : List ℕ) (from Q : ℕ) → IsFirstBit words from Q → Q < pools → IsNextUp (flags_in pools words) from Q
next_up pools words from Q hit within = record {
  past = hit.past;
  within = let n = flags_count pools words in omega (arith, n, within);
  up = flag_in pools words Q within ∙ hit.one;
  first = λ R past less. flag_in pools words R (omega (arith, less, within)) ∙ hit.first R past less;
}

-- none from a place on is up, where the first bit lies past the pools, and where there is none
pub down_past : (pools : ℕ) (words : List ℕ) (from Q : ℕ) → IsFirstBit words from Q → pools ≤ Q → AreDownFrom (flags_in pools words) from
down_past pools words from Q hit past R low = let n = flags_count pools words in elim (cases_lt R pools) [
  | inl within ↦ flag_in pools words R within ∙ hit.first R low (omega (arith, within, past))
  | inr out ↦ past_false (flags_in pools words) R (omega (arith, n, out))
]

pub down_all : (pools : ℕ) (words : List ℕ) (from : ℕ) → ((Q : ℕ) → from ≤ Q → Q < 64 * length words → has_pool_bit words Q ≡ false) → pools ≤ 64 * length words → AreDownFrom (flags_in pools words) from
down_all pools words from none fits R low = let n = flags_count pools words in elim (cases_lt R pools) [
  | inl within ↦ flag_in pools words R within ∙ none R low (omega (arith, within, fits))
  | inr out ↦ past_false (flags_in pools words) R (omega (arith, n, out))
]

-- one flag that is written
pub flags_put : (pools : ℕ) (words new : List ℕ) (Q : ℕ) (up : Bool) → Q < pools → has_pool_bit new Q ≡ up → ((R : ℕ) → R ≢ Q → has_pool_bit new R ≡ has_pool_bit words R) → flags_in pools new ≡ set (flags_in pools words) Q up
flags_put pools words new Q up within same other =
    let n = flags_count pools words in let m = flags_count pools new in
    same_by_each (flags_in pools new) (set (flags_in pools words) Q up) false (m ∙ sym (length-set (flags_in pools words) Q up ∙ n)) (λ k h.
    let inside : k < pools = omega (arith, h, m) in
    flag_in pools new k inside ∙ elim (cases_eq k Q) [
      | inl is ↦ ap (has_pool_bit new) is ∙ (same ∙ sym (get_or-set_at (flags_in pools words) Q k up false is (omega (arith, n, within))))
      | inr apart ↦ other k apart ∙ (sym (flag_in pools words k inside) ∙ sym (get_or-set_other (flags_in pools words) Q k up false apart))
    ])

-- a word's bits, where it is all ones or 0
all_one : (i : ℕ) → i < 64 → has_bit 18446744073709551615 i ≡ true
all_one i h = ap (λ (b : ℕ). nat_eq b 1) (bit_at_ones 64 i h)

all_zero : (i : ℕ) → has_bit 0 i ≡ false
all_zero i = ap (λ (b : ℕ). nat_eq b 1) (bit_at-zero i)

pub flags_all : (pools : ℕ) → flags_in pools (replicate (pools / 64 + 1) 18446744073709551615) ≡ replicate pools true
flags_all pools =
    let words : List ℕ = replicate (pools / 64 + 1) 18446744073709551615 in
    let m = flags_count pools words in
    same_by_each (flags_in pools words) (replicate pools true) false (m ∙ sym (length-replicate pools true)) (λ k h.
    let inside : k < pools = omega (arith, h, m) in
    flag_in pools words k inside ∙ (ap (λ (w : ℕ). has_bit w (k % 64)) (get_or-replicate (pools / 64 + 1) (k / 64) 18446744073709551615 0 (omega (arith, inside)))
    ∙ (all_one (k % 64) (omega arith) ∙ sym (get_or-replicate pools k true false inside))))

pub flags_none : (pools : ℕ) → flags_in pools (replicate (pools / 64 + 1) 0) ≡ replicate pools false
flags_none pools =
    let words : List ℕ = replicate (pools / 64 + 1) 0 in
    let m = flags_count pools words in
    same_by_each (flags_in pools words) (replicate pools false) false (m ∙ sym (length-replicate pools false)) (λ k h.
    let inside : k < pools = omega (arith, h, m) in
    flag_in pools words k inside ∙ (ap (λ (w : ℕ). has_bit w (k % 64)) (get_or-replicate (pools / 64 + 1) (k / 64) 0 0 (omega (arith, inside)))
    ∙ (all_zero (k % 64) ∙ sym (get_or-replicate pools k false false inside))))

-- how many flags are up
pub count_put : (flags : List Bool) (Q : ℕ) (up : Bool) → Q < length flags → count_up (set flags Q up) + once_if (get_or flags Q false) ≡ count_up flags + once_if up
count_put flags Q up h = sum_by-set once_if flags Q up false h

once_le : (b : Bool) → once_if b ≤ 1
once_le true = omega arith
once_le false = omega arith

pub count_most : (flags : List Bool) → count_up flags ≤ length flags
count_most [] = omega arith
count_most (f ∷ fs) = let sums = sum_by-cons once_if f fs in let one = once_le f in let rest = count_most fs in omega (arith, sums, one, rest)

pub count_least : (flags : List Bool) (Q : ℕ) → Q < length flags → once_if (get_or flags Q false) ≤ count_up flags
count_least [] Q h = absurd (omega (arith, h))
count_least (f ∷ fs) zero h = let sums = sum_by-cons once_if f fs in omega (arith, sums)
count_least (f ∷ fs) (suc Q) h = let sums = sum_by-cons once_if f fs in let rest = count_least fs Q (omega (arith, h)) in omega (arith, sums, rest)

pub count_all : (n : ℕ) → count_up (replicate n true) ≡ n
count_all zero = refl
count_all (suc n) = let sums = sum_by-cons once_if true (replicate n true) in let rest = count_all n in omega (arith, sums, rest)

pub count_none : (n : ℕ) → count_up (replicate n false) ≡ 0
count_none zero = refl
count_none (suc n) = let sums = sum_by-cons once_if false (replicate n false) in let rest = count_none n in omega (arith, sums, rest)

-- some flag is up where their count isn't 0
pub any_counted : (flags : List Bool) → nat_lt 0 (count_up flags) ≡ has_any flags
any_counted [] = refl
any_counted (true ∷ fs) = let sums = sum_by-cons once_if true fs in lt-ltb 0 (count_up (true ∷ fs)) (omega (arith, sums))
any_counted (false ∷ fs) = let sums : count_up (false ∷ fs) ≡ count_up fs = omega (arith, sum_by-cons once_if false fs) in ap (nat_lt 0) sums ∙ any_counted fs
