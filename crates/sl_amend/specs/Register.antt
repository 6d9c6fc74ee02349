-- What a draft is kept in.
use Rattle.std.specs.Prelude.{◌≡◌, true, None, length, map}
use Rattle.std.specs.List.{list_all}
use Rattle.sl_types.specs.Market.{market_in, market_of_pools}
use Rattle.sl_types.specs.Trees.{tree_of}
use Rattle.sl_types.specs.Valid.{nesting_fault, quota_fault}
use Rattle.sl_codes.specs.Fields.{is_code}
use Rattle.sl_instance.specs.NamedMarket.{with_codes}
use Rattle.sl_amend.specs.declared.register.Register.{Register}
use Rattle.sl_amend.specs.DraftMarket.{DraftMarket}
use Rattle.sl_amend.specs.Roll.{IsRoll, lists_of}

-- the draft
abbrev pub draft_of : Register → DraftMarket
draft_of register = record {
  named = with_codes (market_in register.pools register.progs (lists_of register.roll))
      register.pool_codes register.prog_codes register.app_codes;
  of_tables = register.of_tables;
  present = register.roll.present.items;
}

-- each pool, programme and applicant has a code, pools are in order, trees are theirs, and the roll is in order
pub record IsRegister (register : Register) : Type 0 where
  pub each_pool : length register.pool_codes ≡ length register.pools.items
  pub each_prog : length register.prog_codes ≡ length register.progs.items
  pub each_applicant : length register.app_codes ≡ length (lists_of register.roll)
  pub coded : list_all is_code register.app_codes ≡ true
  pub quotas : quota_fault (market_of_pools register.pools.items) ≡ None
  pub nested : nesting_fault (market_of_pools register.pools.items) ≡ None
  pub trees : register.roll.merits.trees.items ≡ map (λ Q. tree_of register.pools.items Q.0) register.progs.items
  pub roll : IsRoll register.roll
