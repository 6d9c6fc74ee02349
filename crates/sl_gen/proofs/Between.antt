-- The lists of a range of applicants, and of two ranges one after the other.
use Rattle.std.proofs.Common.{◌≡◌, ℕ, ◌+◌, ◌-◌, ◌≤◌, List, [], ◌∷◌, ◌++◌, map, sym, ap, ◌∙◌, refl, arith}
use Rattle.std.specs.List.{range_with_len}
use Rattle.std.proofs.lemmas.List.{map-append}
use Rattle.std.proofs.lemmas.List.FromFn.{map-range_with_len_more}
use Rattle.sl_types.specs.declared.kinds.Entry.{Entry}
use Rattle.sl_pieces.proofs.Ranges.{range_split}
use Rattle.sl_gen.specs.Choices.{choices_of, lists_between}

-- one applicant more
pub one_more : (progs first app : ℕ) → first ≤ app → lists_between progs first (app + 1) ≡ lists_between progs first app ++ choices_of progs app ∷ []
one_more progs first app low =
    let more : app + 1 - first ≡ app - first + 1 = omega (arith, low) in
    ap (λ (n : ℕ). map (choices_of progs) (range_with_len first n)) more
    ∙ map-range_with_len_more (choices_of progs) first (app - first) app (omega (arith, low))

-- these are the lists of a range
abbrev pub AreBetween : ℕ → ℕ → ℕ → List (List Entry) → Type 0
AreBetween progs first end lists = lists ≡ lists_between progs first end

pub none_between : (progs a : ℕ) → AreBetween progs a a []
none_between progs a = let e : a - a ≡ 0 = omega arith in rw e refl

pub both_between : (progs a b c : ℕ) (xs ys : List (List Entry)) → a ≤ b → b ≤ c → AreBetween progs a b xs → AreBetween progs b c ys → AreBetween progs a c (xs ++ ys)
both_between progs a b c xs ys low high front back =
    let whole : lists_between progs a c ≡ lists_between progs a b ++ lists_between progs b c =
    ap (map (choices_of progs)) (range_split a b c low high) ∙ map-append (choices_of progs) (range_with_len a (b - a)) (range_with_len b (c - b)) in
    rw (front, back) (sym whole)
