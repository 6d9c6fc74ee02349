-- Whether a raise is justified, as a test, and the greatest justified raise of a pool.
use Rattle.std.specs.Prelude.{ℕ, zero, suc, ◌+◌, ◌-◌, Bool, cond, ◌&&◌, nat_lt, nat_le}
use Rattle.sl_types.specs.declared.kinds.Rule.{Rule}
use Rattle.sl_types.specs.declared.kinds.TheConstants.{MAX_SCORE}
use Rattle.sl_types.specs.declared.kinds.Rule.TheVariants.{H, L, Merit}
use Rattle.sl_types.specs.Market.{Market, quota_of, rule_of}
use Rattle.sl_laws.specs.Limits.{Limits, with_limit, demand, capped_demand}

-- whether a raise is justified by a rule, as a test
abbrev pub is_justified_by : Rule → Market → Limits → ℕ → ℕ → Bool
is_justified_by H market t P x = nat_lt (quota_of market P) (demand market t P (x - 1))
is_justified_by L market t P x =
    nat_lt (quota_of market P) (demand market t P (x - 1)) && nat_le (quota_of market P) (demand market t P x)
is_justified_by Merit market t P x = nat_le (quota_of market P) (capped_demand market (with_limit t P 0) P x)

-- by the rule of its pool
abbrev pub is_justified : Market → Limits → ℕ → ℕ → Bool
is_justified market t P x = is_justified_by (rule_of market P) market t P x

-- the greatest number up to n that passes, or 0
abbrev pub last_passing : (ℕ → Bool) → ℕ → ℕ
last_passing f zero = 0
last_passing f (suc n) = cond (f (suc n)) (suc n) (last_passing f n)

-- the greatest justified raise of P, or 0
unfoldable pub best_raise : Market → Limits → ℕ → ℕ
best_raise market t P = last_passing (is_justified market t P) (MAX_SCORE + 1)
