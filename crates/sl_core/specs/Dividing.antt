-- An actor that divides, and two that become one. The machine's events don't have these; crews of workers do.
use Rattle.std.specs.Prelude.{ℕ, Bool, if◌then◌else◌, ◌||◌, max, List, [], ◌∷◌, ◌++◌, set}
use Rattle.sl_types.specs.Market.{Market}
use Rattle.sl_core.specs.State.{Actor, State, no_limits, no_pools, idle_actor, actor_at}

-- the greater of two numbers at each place
abbrev pub greater_of : List ℕ → List ℕ → List ℕ
greater_of [] ys = []
greater_of (x ∷ xs) [] = x ∷ xs
greater_of (x ∷ xs) (y ∷ ys) = max x y ∷ greater_of xs ys

-- the pools of two lists
abbrev pub either_of : List Bool → List Bool → List Bool
either_of [] ys = []
either_of (x ∷ xs) [] = x ∷ xs
either_of (x ∷ xs) (y ∷ ys) = (x || y) ∷ either_of xs ys

-- An actor divides: a new one knows what it knows, and has the same pools left to scan, or none where it is bare.
abbrev pub actor_divided_off : Market → Actor → Bool → Actor
actor_divided_off market a bare = idle_actor market a.known (if bare then no_pools market else a.left) []

abbrev pub after_divide : Market → State → ℕ → Bool → State
after_divide market s i bare = record s { actors = s.actors ++ actor_divided_off market (actor_at s i) bare ∷ [] }

-- Two idle actors become one: it has what both had, and the other is left with nothing.
abbrev pub actor_of_both : Actor → Actor → Actor
actor_of_both a b = record a {
  known = greater_of a.known b.known;
  left = either_of a.left b.left;
  log = a.log ++ b.log;
}

abbrev pub spent_actor : Market → Actor
spent_actor market = idle_actor market (no_limits market) (no_pools market) []

abbrev pub after_unite : Market → State → ℕ → ℕ → State
after_unite market s i j = record s {
  actors = set (set s.actors i (actor_of_both (actor_at s i) (actor_at s j))) j (spent_actor market);
}
