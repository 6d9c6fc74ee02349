-- A seat of a crew that is split.
use Rattle.std.proofs.Common.{◌≡◌, ◌∙◌, ℕ, zero, suc, ◌+◌, ◌/◌, ◌<◌, ◌≤◌, Bool, List, [], ◌∷◌, ◌++◌, All, length, get_or, set, sym, ap, subst, arith, length-set, length-append, get_or-set_other}
use Rattle.std.specs.List.{AllWithin}
use Rattle.std.proofs.lemmas.List.Elements.{All-set, All-push}
use Rattle.std.proofs.lemmas.List.Sums.{sum_by-set, sum_by_push}
use Rattle.std.proofs.Math.ListN.{get_or-append}
use Rattle.sl_types.specs.declared.kinds.Logged.{Logged}
use Rattle.sl_core.specs.State.{is_idle}
use Rattle.sl_floor.specs.declared.shares.TheConstants.{WHOLE_SHARE}
use Rattle.sl_floor.specs.Floor.{FloorValue, SeatValue, stay_view, go_view}
use Rattle.sl_team.specs.Rounds.{halved}
use Rattle.sl_team.specs.Seats.{IsFresh, HasAtLeast}
use Rattle.sl_team.specs.Crew.{IsTeam, IsSplitAt, AreLogged}

module _ (floor : FloorValue) (room : ℕ) (known : List ℕ) where
  stays_fresh : (s : SeatValue) → IsFresh floor room known s → 2 ≤ s.view.share → IsFresh floor room known (record s { view = stay_view s.view })
  stays_fresh s f two = record { of = record { table = f.of.table; market = f.of.market; kept = f.of.kept; shares = omega (arith, two) }; idle = f.idle; room_is = f.room_is; log = f.log; knows = f.knows }

  goes_fresh : (bare : Bool) (s made : SeatValue) → IsFresh floor room known s → 2 ≤ s.view.share → made.view ≡ go_view bare s.view → made.table ≡ s.table → made.log ≡ [] → made.room ≡ room → IsFresh floor room known made
  goes_fresh bare s made f two view table log room_is = record {
    of = record {
      table = table ∙ f.of.table;
      market = ap (λ v. v.market) view ∙ f.of.market;
      kept = ap (λ v. v.kept) view ∙ f.of.kept;
      shares = let e = ap (λ v. v.share) view in omega (arith, two, e);
    };
    idle = ap (λ v. is_idle v.actor.phase) view;
    room_is = room_is;
    log = log;
    knows = ap (λ v. v.actor.known) view ∙ f.knows;
  }

logs_split : (bare : Bool) (before : List Logged) (crew : List SeatValue) (at : ℕ) (s made : SeatValue) → AreLogged before crew → at < length crew → get_or crew at s ≡ s → made.view ≡ go_view bare s.view → made.log ≡ []
    → AreLogged before (set crew at (record s { view = stay_view s.view }) ++ made ∷ [])
logs_split bare before [] at s made logs h is view log = absurd (omega (arith, h))
logs_split bare before (first ∷ others) zero s made logs h is view log = (
  subst (λ (x : SeatValue). x.view.actor.log ≡ before ++ x.log) is logs.0,
  All-push (λ (x : SeatValue). x.view.actor.log ≡ x.log) others made logs.1 (ap (λ v. v.actor.log) view ∙ sym log),
)
logs_split bare before (first ∷ others) (suc at) s made logs h is view log =
    let own : s.view.actor.log ≡ s.log = subst (λ (x : SeatValue). x.view.actor.log ≡ x.log) is (logs.1 at s (omega (arith, h))) in (
      logs.0,
      All-push (λ (x : SeatValue). x.view.actor.log ≡ x.log) _ made (All-set (λ (x : SeatValue). x.view.actor.log ≡ x.log) others at (record s { view = stay_view s.view }) own logs.1)
          (ap (λ v. v.actor.log) view ∙ sym log),
    )

-- all seats together have what they had
pub split_keeps : (floor : FloorValue) (room : ℕ) (known : List ℕ) (before : List Logged) (total : ℕ) (bare : Bool) (crew later : List SeatValue) (at : ℕ) → IsTeam (IsFresh floor room known) before total crew → at < length crew
    → ((d : SeatValue) → 2 ≤ (get_or crew at d).view.share) → IsSplitAt room at bare crew later → IsTeam (IsFresh floor room known) before total later
split_keeps floor room known before total bare crew later at team h two split =
    let s = split.seat in
    let made = split.made in
    let stay : SeatValue = record s { view = stay_view s.view } in
    let its : 2 ≤ s.view.share = subst (λ (x : SeatValue). 2 ≤ x.view.share) split.place (two s) in
    let fresh : IsFresh floor room known s = subst (λ (x : SeatValue). IsFresh floor room known x) split.place (team.each at s h) in
    let new_seat = goes_fresh floor room known bare s made fresh its split.view split.table split.log split.room_is in
    let its_share = ap (λ v. v.share) split.view in
    let its_allowance = ap (λ v. v.allowance) split.view in
    let same_share = ap (λ (x : SeatValue). x.view.share) split.place in
    let same_allowance = ap (λ (x : SeatValue). x.view.allowance) split.place in
    let shares = sum_by-set (λ (x : SeatValue). x.view.share) crew at stay s h in
    let more_shares = sum_by_push (λ (x : SeatValue). x.view.share) (set crew at stay) made in
    let all_shares = team.shares in
    let allowances = sum_by-set (λ (x : SeatValue). x.view.allowance) crew at stay s h in
    let more_allowances = sum_by_push (λ (x : SeatValue). x.view.allowance) (set crew at stay) made in
    let all_allowances = team.total_is in
    subst (λ (l : List SeatValue). IsTeam (IsFresh floor room known) before total l) (sym split.later_is) (record {
      each = All-push (IsFresh floor room known) (set crew at stay) made (All-set (IsFresh floor room known) crew at stay (stays_fresh floor room known s fresh its) team.each) new_seat;
      shares = omega (arith, shares, more_shares, all_shares, its_share, same_share);
      total_is = omega (arith, allowances, more_allowances, all_allowances, its_allowance, same_allowance);
      logs = logs_split bare before crew at s made team.logs h split.place split.view split.log;
    })

-- the halves have half of what each had at least; the seats of the level that come after have that
pub level_keeps : (share allowance room at count : ℕ) (bare : Bool) (crew later : List SeatValue) → at < count → count ≤ length crew → IsSplitAt room at bare crew later
    → All (HasAtLeast (share / 2) (allowance / 2)) crew → AllWithin (HasAtLeast share allowance) crew at count
    → All (HasAtLeast (share / 2) (allowance / 2)) later × AllWithin (HasAtLeast share allowance) later (at + 1) count
level_keeps share allowance room at count bare crew later h k split low rest =
    let s = split.seat in
    let made = split.made in
    let stay : SeatValue = record s { view = stay_view s.view } in
    let inside : at < length crew = omega (arith, h, k) in
    let its : HasAtLeast share allowance s = subst (HasAtLeast share allowance) split.place (rest at s (omega arith) h) in
    let its_share = ap (λ v. v.share) split.view in
    let its_allowance = ap (λ v. v.allowance) split.view in
    let staying : HasAtLeast (share / 2) (allowance / 2) stay = (omega (arith, its.0), omega (arith, its.1)) in
    let going : HasAtLeast (share / 2) (allowance / 2) made = (omega (arith, its.0, its_share), omega (arith, its.1, its_allowance)) in
    let long = length-set crew at stay in
    subst (λ (l : List SeatValue). All (HasAtLeast (share / 2) (allowance / 2)) l × AllWithin (HasAtLeast share allowance) l (at + 1) count) (sym split.later_is) (
      All-push (HasAtLeast (share / 2) (allowance / 2)) (set crew at stay) made (All-set (HasAtLeast (share / 2) (allowance / 2)) crew at stay staying low) going,
      λ j d above below.
          let here : get_or (set crew at stay ++ made ∷ []) j d ≡ get_or crew j d =
          get_or-append (set crew at stay) (made ∷ []) d j (omega (arith, long, below, k)) ∙ get_or-set_other crew at j stay d (λ e. omega (arith, e, above)) in
          subst (HasAtLeast share allowance) (sym here) (rest j d (omega (arith, above)) below),
    )

pub split_long : (room at : ℕ) (bare : Bool) (crew later : List SeatValue) → IsSplitAt room at bare crew later → length later ≡ length crew + 1
split_long room at bare crew later split =
    let stay : SeatValue = record split.seat { view = stay_view split.seat.view } in
    let a = ap length split.later_is in
    let b = length-append (set crew at stay) (split.made ∷ []) in
    let c = length-set crew at stay in
    omega (arith, a, b, c)

-- a share can be halved seven times
pub wide : (k : ℕ) → k < 7 → 2 ≤ halved k WHOLE_SHARE
wide zero h = omega arith
wide (suc zero) h = omega arith
wide (suc (suc zero)) h = omega arith
wide (suc (suc (suc zero))) h = omega arith
wide (suc (suc (suc (suc zero)))) h = omega arith
wide (suc (suc (suc (suc (suc zero))))) h = omega arith
wide (suc (suc (suc (suc (suc (suc zero)))))) h = omega arith
wide (suc (suc (suc (suc (suc (suc (suc k))))))) h = absurd (omega (arith, h))
