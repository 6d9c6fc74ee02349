-- The steps of the clearing machine. Each kind of step has a test, whether it may come, and an effect. Where a step
-- doesn't come its effect is never asked for.
use Rattle.std.specs.Prelude.{◌≡◌, ℕ, ◌+◌, Bool, true, false, if◌then◌else◌, not, ◌&&◌, ◌||◌, max, List, [], ◌∷◌, ◌++◌, length, map, set, slice_index, nat_eq, nat_lt}
use Rattle.std.specs.List.{list_any, list_all}
use Rattle.sl_types.specs.declared.kinds.PoolId.{PoolId}
use Rattle.sl_types.specs.Market.{Market, pool_numbers}
use Rattle.sl_laws.specs.Limits.{effective_limit}
use Rattle.sl_laws.specs.Stable.{feeds}
use Rattle.sl_laws.specs.Best.{best_raise}
use Rattle.sl_core.specs.declared.kinds.Phase.{Phase}
use Rattle.sl_core.specs.declared.kinds.Phase.TheVariants.{Idle, Working, Ready, Drawn, Owing}
use Rattle.sl_core.specs.declared.kinds.Event.{Event}
use Rattle.sl_core.specs.declared.kinds.EventKind.{EventKind}
use Rattle.sl_core.specs.declared.kinds.EventKind.TheVariants as does
use Rattle.sl_core.specs.State.{Actor, State, has_pool, no_limits, no_pools, actor_at, is_idle}

-- whether a raise of P asks for a read of Q: Q is P or feeds it
abbrev pub is_asked : Market → ℕ → ℕ → Bool
is_asked market P Q = nat_eq Q P || feeds market Q P

-- whether a read that P asks for isn't made yet
abbrev pub lacks_read : Market → ℕ → List Bool → Bool
lacks_read market P made = list_any (λ Q. is_asked market P Q && not (has_pool made Q)) (pool_numbers market)

-- the pools that P feeds
abbrev pub fed_pools : Market → ℕ → List Bool
fed_pools market P = map (λ Q. feeds market P Q) (pool_numbers market)

-- whether any flag is up
abbrev pub has_any : List Bool → Bool
has_any flags = list_any (λ flag. flag) flags

-- Claim: an idle actor takes a pool out of those left to scan, and its flag goes down. Where the flag was up the actor
-- works on the pool, with no reads.
abbrev pub may_claim : Actor → ℕ → Bool
may_claim a Q = is_idle a.phase && has_pool a.left Q

abbrev pub actor_after_claim : Market → Bool → Actor → PoolId → Actor
actor_after_claim market true a Q =
    record a { phase = Working Q; reads = no_limits market; made = no_pools market; left = set a.left Q.0 false }
actor_after_claim market false a Q = record a { left = set a.left Q.0 false }

abbrev pub after_claim : Market → State → ℕ → PoolId → State
after_claim market s i Q = record s {
  flags = set s.flags Q.0 false;
  actors = set s.actors i (actor_after_claim market (has_pool s.flags Q.0) (actor_at s i) Q);
}

-- Read: an idle actor may read any word. One that works on P reads each word that P asks for, once.
abbrev pub may_read : Market → Phase → Actor → ℕ → Bool
may_read market Idle a Q = nat_lt Q (length market.pools)
may_read market (Working P) a Q =
    nat_lt Q (length market.pools) && is_asked market P.0 Q && not (has_pool a.made Q)
may_read market (Ready P x) a Q = false
may_read market (Drawn P x) a Q = false
may_read market (Owing P) a Q = false

-- what comes after the last read: the greatest justified raise at the reads, where it is above the effective limit at
-- the reads, else nothing; a pool outside the reads counts as 0
abbrev pub phase_found : Market → PoolId → List ℕ → Phase
phase_found market P reads =
    let best = best_raise market (slice_index reads) P.0 in
    if nat_lt (effective_limit market (slice_index reads) P.0) best then Ready P best else Idle

-- what comes after a read
abbrev pub phase_after_read : Market → PoolId → List ℕ → List Bool → Phase
phase_after_read market P reads made =
    if lacks_read market P.0 made then Working P else phase_found market P reads

-- an actor that works on P knows the word of Q, and has read it
abbrev pub worker_after_read : Market → PoolId → Actor → ℕ → ℕ → Actor
worker_after_read market P a Q word = record a {
  phase = phase_after_read market P (set a.reads Q word) (set a.made Q true);
  known = set a.known Q word;
  reads = set a.reads Q word;
  made = set a.made Q true;
}

abbrev pub actor_after_read : Market → Phase → Actor → ℕ → ℕ → Actor
actor_after_read market Idle a Q word = record a { known = set a.known Q word }
actor_after_read market (Working P) a Q word = worker_after_read market P a Q word
actor_after_read market (Ready P x) a Q word = a
actor_after_read market (Drawn P x) a Q word = a
actor_after_read market (Owing P) a Q word = a

abbrev pub after_read : Market → State → ℕ → PoolId → State
after_read market s i Q =
    let a = actor_at s i in
    record s { actors = set s.actors i (actor_after_read market a.phase a Q.0 (slice_index s.limits Q.0)) }

-- Draw: the raise that is ready joins the log, with the next ticket.
abbrev pub may_draw : Phase → ℕ → Bool
may_draw Idle x = false
may_draw (Working P) x = false
may_draw (Ready P y) x = nat_eq y x
may_draw (Drawn P y) x = false
may_draw (Owing P) x = false

abbrev pub actor_after_draw : Phase → Actor → ℕ → Actor
actor_after_draw Idle a ticket = a
actor_after_draw (Working P) a ticket = a
actor_after_draw (Ready P x) a ticket =
    record a { phase = Drawn P x; log = a.log ++ record { ticket = ticket; pool = P; limit = x } ∷ [] }
actor_after_draw (Drawn P x) a ticket = a
actor_after_draw (Owing P) a ticket = a

abbrev pub after_draw : State → ℕ → State
after_draw s i = record s {
  ticket = s.ticket + 1;
  actors = set s.actors i (actor_after_draw (actor_at s i).phase (actor_at s i) s.ticket);
}

-- Raise: the word becomes the greater of itself and the raise, and the actor knows it. Where the word rose, each pool
-- that it feeds is owed a mark.
abbrev pub may_raise : Phase → Bool
may_raise Idle = false
may_raise (Working P) = false
may_raise (Ready P x) = false
may_raise (Drawn P x) = true
may_raise (Owing P) = false

abbrev pub phase_after_raise : Market → PoolId → Bool → Phase
phase_after_raise market P rose = if rose && has_any (fed_pools market P.0) then Owing P else Idle

abbrev pub actor_after_raise : Market → PoolId → ℕ → Actor → ℕ → Actor
actor_after_raise market P x a word = record a {
  phase = phase_after_raise market P (nat_lt word x);
  known = set a.known P.0 (max word x);
  owed = fed_pools market P.0;
}

abbrev pub after_raising_by : Market → Phase → State → ℕ → State
after_raising_by market Idle s i = s
after_raising_by market (Working P) s i = s
after_raising_by market (Ready P x) s i = s
after_raising_by market (Drawn P x) s i = record s {
  limits = set s.limits P.0 (max (slice_index s.limits P.0) x);
  actors = set s.actors i (actor_after_raise market P x (actor_at s i) (slice_index s.limits P.0));
}
after_raising_by market (Owing P) s i = s

abbrev pub after_raising : Market → State → ℕ → State
after_raising market s i = after_raising_by market (actor_at s i).phase s i

-- Mark: the flag of a pool that is owed a mark goes up, and the pool joins those left to scan.
abbrev pub still_owes : Phase → List Bool → ℕ → Bool
still_owes Idle owed Q = false
still_owes (Working P) owed Q = false
still_owes (Ready P x) owed Q = false
still_owes (Drawn P x) owed Q = false
still_owes (Owing P) owed Q = has_pool owed Q

abbrev pub actor_after_mark : Actor → ℕ → Actor
actor_after_mark a Q = record a {
  phase = if has_any (set a.owed Q false) then a.phase else Idle;
  left = set a.left Q true;
  owed = set a.owed Q false;
}

abbrev pub after_mark : State → ℕ → PoolId → State
after_mark s i Q = record s {
  flags = set s.flags Q.0 true;
  actors = set s.actors i (actor_after_mark (actor_at s i) Q.0);
}

-- whether an actor has a step of this kind
abbrev pub may_do : Market → Actor → EventKind → Bool
may_do market a (does.Claim Q) = may_claim a Q.0
may_do market a (does.Read Q) = may_read market a.phase a Q.0
may_do market a (does.Draw x) = may_draw a.phase x
may_do market a does.Raise = may_raise a.phase
may_do market a (does.Mark Q) = still_owes a.phase a.owed Q.0

-- whether the machine has this step
abbrev pub may_come : Market → State → Event → Bool
may_come market s event =
    nat_lt event.actor (length s.actors) && may_do market (actor_at s event.actor) event.kind

-- where a step of actor i leads
abbrev pub after_kind : Market → State → ℕ → EventKind → State
after_kind market s i (does.Claim Q) = after_claim market s i Q
after_kind market s i (does.Read Q) = after_read market s i Q
after_kind market s i (does.Draw x) = after_draw s i
after_kind market s i does.Raise = after_raising market s i
after_kind market s i (does.Mark Q) = after_mark s i Q

abbrev pub after_event : Market → State → Event → State
after_event market s event = after_kind market s event.actor event.kind

-- the steps of the machine
pub record Steps (market : Market) (s : State) (event : Event) (t : State) : Type 0 where
  pub may : may_come market s event ≡ true
  pub leads : t ≡ after_event market s event

-- an actor that is idle, with no pool left to scan
abbrev pub is_quiet : Actor → Bool
is_quiet a = is_idle a.phase && not (has_any a.left)

-- every actor is
abbrev pub IsQuiet : State → Type 0
IsQuiet s = list_all is_quiet s.actors ≡ true
