-- The applicants of a draft, as it keeps them: their lists, who is present, and what is counted over all lists.
use Rattle.std.specs.Prelude.{◌≡◌, ◌≤◌, ◌<◌, ℕ, ◌&&◌, not, Bool, true, false, List, length, nat_le, nat_lt, set, get_or, sum_by, count_by}
use Rattle.std.specs.List.{list_all}
use Rattle.sl_types.specs.declared.kinds.Entry.{Entry}
use Rattle.sl_types.specs.declared.kinds.TheConstants.{MAX_APPLICANTS, MAX_CHOICES, MAX_LIST, MAX_PLACE, MAX_SCORE}
use Rattle.sl_types.specs.Rules.{rises_from, has_prog_twice, names_prog}
use Rattle.sl_instance.specs.Lists.{contents}
use Rattle.sl_amend.specs.declared.roll.Roll.{Roll}
use Rattle.sl_amend.specs.declared.merits.Merits.{Merits}
use Rattle.sl_amend.specs.Causes.{takes_place}
use Rattle.sl_amend.specs.Merits.{Holds, count_over}

-- the numbers of a choice are in their ranges, where there are so many programmes
abbrev pub is_choice : ℕ → Entry → Bool
is_choice progs e =
    nat_lt e.prog.0 progs && (nat_le 1 e.place && (nat_le e.place MAX_PLACE && nat_le e.score MAX_SCORE))

-- the choices of an applicant: not too many, in rising order of place, no programme twice
abbrev pub is_list : ℕ → List Entry → Bool
is_list progs choices =
    nat_le (length choices) MAX_LIST
    && (list_all (is_choice progs) choices && (rises_from 0 choices && not (has_prog_twice choices)))

-- the lists of all applicants
abbrev pub lists_of : Roll → List (List Entry)
lists_of roll = contents roll.lists.items

-- how many programmes there are, of each of which the tree is known
abbrev pub programmes : Merits → ℕ
programmes merits = length merits.trees.items

-- the lists of applicants are in order, and what is counted is counted over them
pub record IsCounted (merits : Merits) (lists : List (List Entry)) (present : List Bool)
    (applicants applications : ℕ) : Type 0 where
  pub each : length present ≡ length lists
  pub in_order : list_all (is_list (programmes merits)) lists ≡ true
  pub present_count : applicants ≡ count_by (λ is_here. is_here) present
  pub choice_count : applications ≡ sum_by length lists
  pub few_applicants : applicants ≤ MAX_APPLICANTS
  pub few_applications : applications ≤ MAX_CHOICES
  pub held : Holds merits (λ key. count_over merits.trees.items key lists)

-- a roll is in order
abbrev pub IsRoll : Roll → Type 0
IsRoll roll = IsCounted roll.merits (lists_of roll) roll.present.items roll.applicants roll.applications

-- a choice may be added to a list
pub record IsAddable (progs : ℕ) (e : Entry) (choices : List Entry) : Type 0 where
  pub choice : is_choice progs e ≡ true
  pub short : length choices < MAX_LIST
  pub place : takes_place e.place choices ≡ false
  pub prog : names_prog e.prog.0 choices ≡ false

-- what stands where there is no choice
abbrev pub no_choice : Entry
no_choice = record { place = 0; prog = record { 0 = 0 }; score = 0 }

-- the choices, of which the one at an index has another score
abbrev pub scored_at : List Entry → ℕ → ℕ → List Entry
scored_at choices at score = set choices at (record (get_or choices at no_choice) { score = score })
