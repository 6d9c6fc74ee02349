-- The result of a clearing, as a document holds it.
use Rattle.std.specs.Prelude.{◌≡◌, ◌≤◌, ◌<◌, ◌+◌, ℕ, List, length, slice_index, All}
use Rattle.sl_types.specs.declared.kinds.Raise.{Raise}
use Rattle.sl_types.specs.declared.kinds.TheConstants.{MAX_SCORE, MAX_APPLICANTS}
use Rattle.sl_types.specs.Market.{list_of}
use Rattle.sl_instance.specs.NamedMarket.{NamedMarket}

-- for each pool its published limit and how many it admits, for each applicant the place in their list of the admitted
-- choice or the length of the list, and a list of raises
pub record Document : Type 0 where
  pub limits : List ℕ
  pub counts : List ℕ
  pub admitted : List ℕ
  pub raises : List Raise

-- a document of these lists
abbrev pub document : List ℕ → List ℕ → List ℕ → List Raise → Document
document limits counts admitted raises = record {
  limits = limits;
  counts = counts;
  admitted = admitted;
  raises = raises;
}

-- the numbers of a document over an instance are in their ranges
pub record IsInRange (n : NamedMarket) (doc : Document) : Type 0 where
  pub each_limit : length doc.limits ≡ length n.market.pools
  pub limits : All (λ y. y ≤ MAX_SCORE + 1) doc.limits
  pub each_count : length doc.counts ≡ length n.market.pools
  pub counts : All (λ k. k ≤ MAX_APPLICANTS) doc.counts
  pub each_admission : length doc.admitted ≡ length n.market.lists
  pub admitted : (a : ℕ) → a < length n.market.lists → slice_index doc.admitted a ≤ length (list_of n.market a)
  pub raises : All (λ r. (r.pool.0 < length n.market.pools) × (1 ≤ r.limit) × (r.limit ≤ MAX_SCORE + 1)) doc.raises
