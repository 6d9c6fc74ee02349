-- Conflicts of merits in a draft, where merits count in trees: an applicant has two in one tree, or two applicants one.
use Rattle.std.specs.Prelude.{ℕ, ◌&&◌, ◌==◌, not, Bool, List, option_map, unwrap_or, false, Option}
use Rattle.std.specs.Option.{option_or}
use Rattle.std.specs.List.{list_any}
use Rattle.sl_types.specs.declared.kinds.Entry.{Entry}
use Rattle.sl_types.specs.Market.{Market, list_of}
use Rattle.sl_types.specs.Rules.{share_tree, has_two_merits, is_tied_below}
use Rattle.sl_types.specs.Valid.{applicant_numbers}
use Rattle.sl_codes.specs.declared.faults.Cause.{Cause}
use Rattle.sl_codes.specs.declared.faults.Cause.TheVariants.{MeritDiffers, MeritTied}
use Rattle.sl_codes.specs.Faults.{cause_if}
use Rattle.sl_codes.specs.Records.{Record}
use Rattle.sl_amend.specs.DraftMarket.{DraftMarket}
use Rattle.sl_amend.specs.Causes.{cause_of_row}
use Rattle.sl_amend.specs.Applied.{applied}

-- an applicant has two merits in one tree
abbrev pub has_differing : Market → Bool
has_differing market = list_any (has_two_merits market) market.lists

-- two applicants have one merit in one tree
abbrev pub has_tied : Market → Bool
has_tied market = list_any (is_tied_below market) (applicant_numbers market)

-- the first of the two that stands in an instance
abbrev pub conflict_cause : Market → Option Cause
conflict_cause market =
    option_or (cause_if (has_differing market) MeritDiffers) (cause_if (has_tied market) MeritTied)

-- what is wrong with a row by itself: a cause that stands in it, or a conflict in the draft that it would leave
abbrev pub cause_alone : DraftMarket → Record → Option Cause
cause_alone draft row = option_or (cause_of_row draft row) (conflict_cause (applied draft row).named.market)

-- one of these choices is in the tree of a choice and has another score
abbrev pub is_contradicted_by : Market → List Entry → Entry → Bool
is_contradicted_by market choices e = list_any (λ f. share_tree market e f && not (e.score == f.score)) choices

-- one of these choices is in the tree of a choice and has the same score
abbrev pub has_merit_of : Market → Entry → List Entry → Bool
has_merit_of market e choices = list_any (λ f. share_tree market e f && (e.score == f.score)) choices

-- another applicant has the merit of a choice of this one in its tree
abbrev pub is_tied_elsewhere : Market → ℕ → Entry → Bool
is_tied_elsewhere market a e =
    list_any (λ b. not (b == a) && has_merit_of market e (list_of market b)) (applicant_numbers market)

-- there is a choice, and it passes
abbrev pub is_choice_where : (Entry → Bool) → Option Entry → Bool
is_choice_where test choice = unwrap_or (option_map test choice) false
