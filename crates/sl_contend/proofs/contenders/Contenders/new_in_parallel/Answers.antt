use Rattle.std.proofs.Common.{ℕ, ◌≡◌, ◌∙◌, length, ap, arith}
use Rattle.sl_contend.specs.Offers.{offers_in}
use Rattle.sl_contend.specs.Rows.{row_of, rows_in, numbers_in}
use Rattle.sl_contend.proofs.Offered.{same_rows, contention_is}
use Rattle.sl_contend.proofs.contenders.Contenders.new_in_parallel.Goals as goal

pub returns : goal.returns
returns g c =
    let market = c.args.instance.now in
    let n : c.pools.result ≡ length market.pools = c.pools.ensures.count in
    let items = c.in_ok-offers.offers.items.items in
    let starts = c.in_ok-offers.offers.starts.items in
    let held = rw c.in_ok-offers.was at c.join-lists.ensures.second in
    let listed = rw c.in_ok-of.was at c.join-lists.ensures.first in
    let offers = ap (λ (m : ℕ). rows_in m items starts) n ∙ same_rows (row_of items starts) (offers_in market) 0 (length market.pools) (λ P low high. held.1 P (omega (arith, high))) in
    let of = ap (λ (m : ℕ). numbers_in (λ a. a.0) m c.in_ok-of.of.items.items c.in_ok-of.of.starts.items) n ∙ listed.of.each in
    let feeds = ap (λ (m : ℕ). numbers_in (λ p. p.0) m c.in_ok-of.feeds.items.items c.in_ok-of.feeds.starts.items) n ∙ listed.feeds.each in
    let fed = ap (λ (m : ℕ). numbers_in (λ p. p.0) m c.in_ok-of.fed.items.items c.in_ok-of.fed.starts.items) n ∙ listed.fed.each in
    contention_is market _ _ _ _ _ n offers of feeds fed
