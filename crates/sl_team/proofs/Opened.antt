-- A floor that opens is between two rounds.
use Rattle.std.proofs.Common.{◌≡◌, ◌∙◌, ℕ, ◌+◌, ◌<◌, ◌≤◌, List, [], ◌∷◌, ◌++◌, All, length, refl, sym, ap, subst, arith, append-nil}
use Rattle.std.proofs.lemmas.List.Elements.{All-cons, All-nil, All-map}
use Rattle.std.proofs.lemmas.List.Sums.{sum_by-cons}
use Rattle.sl_types.specs.declared.kinds.Raise.{Raise}
use Rattle.sl_types.specs.declared.kinds.Logged.{Logged}
use Rattle.sl_types.specs.declared.kinds.TheConstants.{MAX_SCORE}
use Rattle.sl_types.specs.Market.{Market, pool_numbers}
use Rattle.sl_types.specs.WellFormed.{IsWellFormed}
use Rattle.sl_laws.specs.Raises.{Replays, limits_after, zeros}
use Rattle.sl_laws.proofs.Least.{sound_by_replay}
use Rattle.sl_core.specs.State.{is_idle, words_after, logged_from}
use Rattle.sl_floor.specs.declared.shares.TheConstants.{WHOLE_SHARE, FIRST_ALLOWANCE}
use Rattle.sl_floor.specs.Floor.{FloorValue, SeatValue, first_view}
use Rattle.sl_floor.specs.Held.{AreLimits}
use Rattle.sl_team.specs.Seats.{SpareValue, IsFresh, IsSpare}
use Rattle.sl_team.specs.Rounds.{IsBetween}
use Rattle.sl_core.proofs.Starts.{words_long}
use Rattle.sl_floor.proofs.Words.{reached_top}

words_low : (market : Market) (kept : List Raise) → IsWellFormed market → Replays market kept → AreLimits (words_after market kept)
words_low market kept ok replays =
    All-map (λ (y : ℕ). y ≤ MAX_SCORE + 1) (limits_after kept) (pool_numbers market) (λ k d h. reached_top market ok zeros kept (λ Q. omega arith) (sound_by_replay market zeros kept replays) _)

pub opened : (market : Market) (kept : List Raise) (floor : FloorValue) (seat : SeatValue) (room : ℕ) (spares : List SpareValue) → IsWellFormed market → Replays market kept
    → floor.market ≡ market → floor.kept ≡ kept → seat.table ≡ floor.table → seat.view ≡ first_view market kept → seat.log ≡ [] → seat.room ≡ room
    → All (IsSpare floor room) spares → length spares < 65 → IsBetween floor room [] (seat ∷ []) spares
opened market kept floor seat room spares ok replays market_is kept_is table view log room_is fit few =
    let known : seat.view.actor.known ≡ words_after market kept = ap (λ v. v.actor.known) view in
    let share : seat.view.share ≡ WHOLE_SHARE = ap (λ v. v.share) view in
    let allowance : seat.view.allowance ≡ FIRST_ALLOWANCE = ap (λ v. v.allowance) view in
    let shares = sum_by-cons (λ (s : SeatValue). s.view.share) seat [] in
    let total = sum_by-cons (λ (s : SeatValue). s.view.allowance) seat [] in
    record {
      one = refl;
      team = record {
        each = All-cons (IsFresh floor room seat.view.actor.known) seat [] (record {
          of = record { table = table; market = ap (λ v. v.market) view ∙ sym market_is; kept = ap (λ v. v.kept) view ∙ sym kept_is; shares = omega (arith, share) };
          idle = ap (λ v. is_idle v.actor.phase) view;
          room_is = room_is;
          log = log;
          knows = refl;
        }) (All-nil (IsFresh floor room seat.view.actor.known));
        shares = omega (arith, shares, share);
        total_is = refl;
        logs = (sym (append-nil seat.view.actor.log) ∙ ap (λ (l : List Logged). seat.view.actor.log ++ l) (sym log), λ k d h. absurd (omega (arith, h)));
      };
      log = ap (λ v. v.actor.log) view ∙ (ap (logged_from 0) (sym kept_is) ∙ sym (append-nil (logged_from 0 floor.kept)));
      limits = subst AreLimits (sym known) (words_low market kept ok replays);
      long = ap length known ∙ (words_long market kept ∙ ap (λ (m : Market). length m.pools) (sym market_is));
      fit = fit;
      few = few;
      top = omega (arith, total, allowance);
      lasts = λ left. omega (arith, total, allowance);
    }
