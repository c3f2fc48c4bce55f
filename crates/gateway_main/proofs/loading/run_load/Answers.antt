use Rattle.std.proofs.Common.{◌≡◌, ◌<◌, ◌∙◌, map, length, sym, arith}
use Rattle.std.proofs.lemmas.List.{length-map}
use Rattle.gateway_main.proofs.Commands.{lends_none, ok_holds, err_holds}
use Rattle.gateway_main.proofs.loading.run_load.Goals as goal

pub returns-in_default-clause-clocks : goal.returns-in_default-clause-clocks
returns-in_default-clause-clocks g c = lends_none 15 (g.H.Dial.house_tale c.args.house.now)

pub returns-then-is_err-clause-clocks : goal.returns-then-is_err-clause-clocks
returns-then-is_err-clause-clocks g c =
    let fewer : length c.lend_clocks.new.clocks.items < 15 = err_holds c.lend_clocks.result _ (sym c.is_err.ensures.value ∙ c.if-is_err.true) c.lend_clocks.ensures.fewer in
    record {
      count = length c.lend_clocks.new.clocks.items;
      within = omega (arith, fewer);
      lent = g.H.Dial.house_tale c.lend_clocks.new.house;
      asks = c.lend_clocks.ensures.asks;
      tales = map g.H.Time.Clock.tale c.lend_clocks.new.clocks.items;
      as_many = length-map c.lend_clocks.new.clocks.items g.H.Time.Clock.tale;
      puts = c.put_back_clocks.ensures.puts;
    }

pub returns-clause-clocks : goal.returns-clause-clocks
returns-clause-clocks g c =
    let all : length c.lend_clocks.new.clocks.items ≡ 15 = ok_holds c.lend_clocks.result _ (sym c.is_err.ensures.value ∙ c.if-is_err.false) c.lend_clocks.ensures.each in
    record {
      count = length c.lend_clocks.new.clocks.items;
      within = omega (arith, all);
      lent = g.H.Dial.house_tale c.lend_clocks.new.house;
      asks = c.lend_clocks.ensures.asks;
      tales = map g.H.Time.Clock.tale c.load-clocks.result.0.items;
      as_many = length-map c.load-clocks.result.0.items g.H.Time.Clock.tale ∙ (c.load-clocks.ensures.clocks ∙ sym all);
      puts = c.put_back_clocks-2.ensures.puts;
    }
