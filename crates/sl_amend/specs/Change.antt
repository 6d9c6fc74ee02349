-- What a row does to a draft, once it is read: by numbers and indexes.
use Rattle.std.specs.Prelude.{◌≡◌, ◌≤◌, ◌<◌, ℕ, true, false, List, [], ◌∷◌, length, remove}
use Rattle.sl_types.specs.declared.kinds.Entry.{Entry}
use Rattle.sl_types.specs.declared.kinds.TheConstants.{MAX_APPLICANTS, MAX_CHOICES, MAX_QUOTA, MAX_SCORE}
use Rattle.sl_types.specs.Market.{list_of}
use Rattle.sl_codes.specs.Codes.{has_code}
use Rattle.sl_codes.specs.Fields.{is_code}
use Rattle.sl_amend.specs.declared.change.Change.{Change}
use Rattle.sl_amend.specs.declared.change.Change.TheVariants.{Quota, Join, Add, Drop, Withdraw, Score}
use Rattle.sl_amend.specs.DraftMarket.{DraftMarket, applicant_count, application_count, is_here}
use Rattle.sl_amend.specs.Applied.{with_quota, with_applicant, with_list, without_applicant, with_choice}
use Rattle.sl_amend.specs.Roll.{is_choice, IsAddable, scored_at}

-- the choices of an applicant
abbrev pub choices_of : DraftMarket → ℕ → List Entry
choices_of draft a = list_of draft.named.market a

-- how many applicants there are, present or not
abbrev pub all_applicants : DraftMarket → ℕ
all_applicants draft = length draft.named.market.lists

-- how many programmes there are
abbrev pub all_programmes : DraftMarket → ℕ
all_programmes draft = length draft.named.market.progs

-- a draft after a change
abbrev pub changed : DraftMarket → Change → DraftMarket
changed draft (Quota P quota) = with_quota draft P.0 quota
changed draft (Join code e) = with_applicant draft code.now (e ∷ [])
changed draft (Add a e) = with_list draft a.0 (with_choice e (choices_of draft a.0))
changed draft (Drop a at) = with_list draft a.0 (remove (choices_of draft a.0) at)
changed draft (Withdraw a) = without_applicant draft a.0
changed draft (Score a at score) = with_list draft a.0 (scored_at (choices_of draft a.0) at score)

-- a change leads from one draft to another
abbrev pub Does : DraftMarket → DraftMarket → Change → Type 0
Does draft after change = changed draft change ≡ after

-- a pool may have this quota
pub record FitsQuota (draft : DraftMarket) (P quota : ℕ) : Type 0 where
  pub known : P < length draft.named.market.pools
  pub low : 1 ≤ quota
  pub high : quota ≤ MAX_QUOTA

-- an applicant of this code may be made, with a choice
pub record FitsJoin (draft : DraftMarket) (code : List ℕ) (e : Entry) : Type 0 where
  pub coded : is_code code ≡ true
  pub is_new : has_code draft.named.app_codes code ≡ false
  pub few_applicants : applicant_count draft < MAX_APPLICANTS
  pub few : application_count draft < MAX_CHOICES
  pub choice : is_choice (all_programmes draft) e ≡ true

-- an applicant may have this choice too
pub record FitsAdd (draft : DraftMarket) (a : ℕ) (e : Entry) : Type 0 where
  pub known : a < all_applicants draft
  pub few : application_count draft < MAX_CHOICES
  pub addable : IsAddable (all_programmes draft) e (choices_of draft a)

-- an applicant has a choice at this index
pub record HasChoice (draft : DraftMarket) (a at : ℕ) : Type 0 where
  pub known : a < all_applicants draft
  pub within : at < length (choices_of draft a)

-- an applicant is present
pub record IsMember (draft : DraftMarket) (a : ℕ) : Type 0 where
  pub known : a < all_applicants draft
  pub here : is_here draft a ≡ true

-- a change can be made
abbrev pub Fits : DraftMarket → Change → Type 0
Fits draft (Quota P quota) = FitsQuota draft P.0 quota
Fits draft (Join code e) = FitsJoin draft code.now e
Fits draft (Add a e) = FitsAdd draft a.0 e
Fits draft (Drop a at) = HasChoice draft a.0 at
Fits draft (Withdraw a) = IsMember draft a.0
Fits draft (Score a at score) = HasChoice draft a.0 at × (score ≤ MAX_SCORE)
