-- A link's delay is its own and the hold time of the node that it enters, and the next one is filled in with it.
use Rattle.std.proofs.Common.{◌<◌, arith, rules}
use Rattle.area.specs.Station.{links_in, table_in}
use Rattle.area.specs.Books.{delay_to}
use Rattle.area.proofs.ReadCases.{formed_links, formed_nodes}
use Rattle.area.proofs.Columns.{filled_more, enters_node, delay_low, delay_is}
use Rattle.station.proofs.formed.Station.put_delays.Goals as goal

pub loop-i-init : goal.loop-i-init
loop-i-init c = record { whole = search rules; filled = λ j low. absurd (omega (arith, low)) }

pub offset_bounds-holds-link : goal.offset_bounds-holds-link
offset_bounds-holds-link c =
    let w = c.args.self.now.area.now in
    let node = enters_node w c.args.self.now.formed c.args.target c.loop-i.i (omega (arith, c.links-links.ensures.count)) _ c.links-links.ensures.words in
    omega (arith, c.get-link.ensures.to, node, formed_nodes w c.args.self.now.formed)

pub bounds-holds-link : goal.bounds-holds-link
bounds-holds-link c =
    let w = c.args.self.now.area.now in
    let node = enters_node w c.args.self.now.formed c.args.target c.loop-i.i (omega (arith, c.links-links.ensures.count)) _ c.links-links.ensures.words in
    omega (arith, c.get-link.ensures.to, node, formed_nodes w c.args.self.now.formed)

pub overflow_add-delays : goal.overflow_add-delays
overflow_add-delays c =
    let w = c.args.self.now.area.now in
    let i = c.loop-i.i in
    let inside : i < links_in w = omega (arith, c.links-links.ensures.count) in
    let node = enters_node w c.args.self.now.formed c.args.target i inside _ c.links-links.ensures.words in
    let held = c.holds_into-holds.ensures c.get-link.result.to (omega (arith, c.get-link.ensures.to, node)) in
    let is = delay_is w c.args.self.now.formed c.args.target i _ c.links-links.ensures.words _ _ _ c.get-link.ensures.delay c.get-link.ensures.to held in
    omega (arith, delay_low w c.args.self.now.formed c.args.target i inside, is)

pub loop-i-preserved : goal.loop-i-preserved
loop-i-preserved c =
    let w = c.args.self.now.area.now in
    let i = c.loop-i.i in
    let node = enters_node w c.args.self.now.formed c.args.target i (omega (arith, c.links-links.ensures.count)) _ c.links-links.ensures.words in
    let held = c.holds_into-holds.ensures c.get-link.result.to (omega (arith, c.get-link.ensures.to, node)) in
    record {
      whole = search rules;
      filled =
          filled_more 0 (delay_to (table_in w) c.args.target) i c.loop-i.delays c.loop-i.invariant.filled
          (omega (arith, c.loop-i.invariant.whole, formed_links w c.args.self.now.formed, c.links-links.ensures.count)) _
          (delay_is w c.args.self.now.formed c.args.target i _ c.links-links.ensures.words _ _ _ c.get-link.ensures.delay c.get-link.ensures.to held);
    }

pub returns : goal.returns
returns c = λ i low. c.loop-i.invariant.filled i (omega (arith, low, c.links-links.ensures.count))
