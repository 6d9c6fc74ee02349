use Rattle.std.proofs.Common.{◌≡◌, ◌<◌, ℕ, ◌||◌, length, All}
use Rattle.sl_types.specs.Market.{lies_in}
use Rattle.sl_amend.specs.Flags.{is_flagged}
use Rattle.sl_amend.proofs.Flagged.{is_flagged_or_among}
use Rattle.sl_amend.proofs.by_choice.flag_round.Given as goal

abbrev pub invariant-loop-here : goal.invariant-loop-here
invariant-loop-here l = record {
  within : All (λ P. P < length l.instance.pools) l.here-iterator;
  flagged : (P : ℕ) → is_flagged_or_among l.flags l.here-iterator P ≡ (is_flagged l.fn.flags P || lies_in l.instance l.fn.pool.0 P);
}
