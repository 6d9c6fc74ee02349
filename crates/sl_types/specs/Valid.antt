-- A valid instance: none of the seventeen rules fails.
use Rattle.std.specs.Prelude.{◌≡◌, ⊤, ℕ, Bool, List, length, sum_by, nat_lt, position, option_map, cond, Option, Some, None}
use Rattle.std.specs.Option.{option_or}
use Rattle.std.specs.List.{range_with_len}
use Rattle.sl_types.specs.declared.kinds.PoolId.{PoolId}
use Rattle.sl_types.specs.declared.kinds.ProgId.{ProgId}
use Rattle.sl_types.specs.declared.kinds.AppId.{AppId}
use Rattle.sl_types.specs.declared.unfit.Unfit.{Unfit}
use Rattle.sl_types.specs.declared.unfit.InstanceError.{InstanceError}
use Rattle.sl_types.specs.declared.unfit.Unfit.TheVariants.{TooManyPools, TooManyProgrammes, TooManyApplicants, TooManyChoices, QuotaRange, ParentRange, ParentRing, TooDeep, RuleNesting, PoolRange, ListLength, ProgRange, PlaceOrder, ScoreRange, ProgRepeated, MeritDiffers, MeritTied}
use Rattle.sl_types.specs.declared.kinds.TheConstants.{MAX_POOLS, MAX_PROGRAMMES, MAX_APPLICANTS, MAX_CHOICES}
use Rattle.sl_types.specs.Market.{Market, pool_numbers}
use Rattle.sl_types.specs.Rules.{has_quota_out, has_parent_out, is_in_ring, is_too_deep, is_badly_nested, is_no_pool, is_too_long, has_prog_out, is_out_of_order, has_score_out, has_prog_twice, has_two_merits, is_tied_below}

-- the numbers of the applicants, in order
abbrev pub applicant_numbers : Market → List ℕ
applicant_numbers market = range_with_len 0 (length market.lists)

-- a fault, or none
abbrev pub fault_if : Bool → Unfit → Option Unfit
fault_if broken fault = cond broken (Some fault) None

-- the fault at a pool, a programme or an applicant, where there is a first
abbrev pub at_pool : (PoolId → Unfit) → Option ℕ → Option Unfit
at_pool fault first = option_map (λ i. fault (record { 0 = i })) first

abbrev pub at_prog : (ProgId → Unfit) → Option ℕ → Option Unfit
at_prog fault first = option_map (λ i. fault (record { 0 = i })) first

abbrev pub at_applicant : (AppId → Unfit) → Option ℕ → Option Unfit
at_applicant fault first = option_map (λ i. fault (record { 0 = i })) first

-- the first pool whose quota is out of its range
abbrev pub first_quota_out : Market → Option ℕ
first_quota_out market = position has_quota_out market.pools

-- the first pool whose parent is no pool
abbrev pub first_parent_out : Market → Option ℕ
first_parent_out market = position (has_parent_out market) market.pools

-- the first pool that is its own ancestor
abbrev pub first_in_ring : Market → Option ℕ
first_in_ring market = position (is_in_ring market) (pool_numbers market)

-- the first pool whose depth is above the greatest
abbrev pub first_too_deep : Market → Option ℕ
first_too_deep market = position (is_too_deep market) (pool_numbers market)

-- the first pool that has a parent where it or the parent isn't a merit pool
abbrev pub first_badly_nested : Market → Option ℕ
first_badly_nested market = position (is_badly_nested market) market.pools

-- the first programme whose pool is no pool
abbrev pub first_in_no_pool : Market → Option ℕ
first_in_no_pool market = position (is_no_pool market) market.progs

-- the first applicant whose list is too long
abbrev pub first_too_long : Market → Option ℕ
first_too_long market = position is_too_long market.lists

-- the first applicant with a choice that names no programme
abbrev pub first_prog_out : Market → Option ℕ
first_prog_out market = position (has_prog_out market) market.lists

-- the first applicant whose places are out of their range or don't rise
abbrev pub first_out_of_order : Market → Option ℕ
first_out_of_order market = position is_out_of_order market.lists

-- the first applicant with a score above the greatest
abbrev pub first_score_out : Market → Option ℕ
first_score_out market = position has_score_out market.lists

-- the first applicant on whose list a programme stands twice
abbrev pub first_prog_twice : Market → Option ℕ
first_prog_twice market = position has_prog_twice market.lists

-- the first applicant with two merits in one tree
abbrev pub first_two_merits : Market → Option ℕ
first_two_merits market = position (has_two_merits market) market.lists

-- the first applicant who has a merit of one of lower number in one tree
abbrev pub first_tied : Market → Option ℕ
first_tied market = position (is_tied_below market) (applicant_numbers market)

abbrev pub size_fault : Market → Option Unfit
size_fault market =
    option_or (fault_if (nat_lt MAX_POOLS (length market.pools)) TooManyPools)
    (option_or (fault_if (nat_lt MAX_PROGRAMMES (length market.progs)) TooManyProgrammes)
    (option_or (fault_if (nat_lt MAX_APPLICANTS (length market.lists)) TooManyApplicants)
    (fault_if (nat_lt MAX_CHOICES (sum_by length market.lists)) TooManyChoices)))

abbrev pub quota_fault : Market → Option Unfit
quota_fault market = at_pool QuotaRange (first_quota_out market)

abbrev pub nesting_fault : Market → Option Unfit
nesting_fault market =
    option_or (at_pool ParentRange (first_parent_out market))
    (option_or (at_pool ParentRing (first_in_ring market))
    (option_or (at_pool TooDeep (first_too_deep market))
    (at_pool RuleNesting (first_badly_nested market))))

abbrev pub programme_fault : Market → Option Unfit
programme_fault market = at_prog PoolRange (first_in_no_pool market)

abbrev pub list_fault : Market → Option Unfit
list_fault market =
    option_or (at_applicant ListLength (first_too_long market))
    (option_or (at_applicant ProgRange (first_prog_out market))
    (option_or (at_applicant PlaceOrder (first_out_of_order market))
    (option_or (at_applicant ScoreRange (first_score_out market))
    (at_applicant ProgRepeated (first_prog_twice market)))))

abbrev pub merit_fault : Market → Option Unfit
merit_fault market =
    option_or (at_applicant MeritDiffers (first_two_merits market))
    (at_applicant MeritTied (first_tied market))

-- the first rule that fails, with the lowest number
abbrev pub first_fault : Market → Option Unfit
first_fault market =
    option_or (size_fault market)
    (option_or (quota_fault market)
    (option_or (nesting_fault market)
    (option_or (programme_fault market)
    (option_or (list_fault market)
    (merit_fault market)))))

abbrev pub IsValid : Market → Type 0
IsValid market = first_fault market ≡ None

-- why an instance is refused: it is the first rule that fails, or memory ran out
abbrev pub IsCause : Market → InstanceError → Type 0
IsCause market (InstanceError.Unfit fault) = first_fault market ≡ Some fault
IsCause market InstanceError.OutOfMemory = ⊤
