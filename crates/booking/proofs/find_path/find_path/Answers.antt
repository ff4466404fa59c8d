-- What the station hands to the search is the network that the request sees, so what the search finds is the reply that the books
-- give.
use Rattle.std.proofs.Common.{arith, ◌∙◌, ◌≡◌, ◌<◌, true, false, ap, rules, ℕ, List, get_or}
use mathlib.Core.Bool.{Bool}
use lib.Dec.{leb}
use Rattle.network.specs.Limits.{most_links}
use Rattle.area.specs.Station.{links_in}
use Rattle.area.specs.Formed.{well_formed}
use Rattle.area.specs.FreeIn.{free_in}
use Rattle.area.proofs.ReadCases.{formed_links}
use Rattle.rules.proofs.Searching.{Handed, table_held, search_ready, failed, found, written}
use Rattle.booking.proofs.find_path.find_path.Goals as goal

-- the flags by a station's free units are those of the area's links
flags : (w free : List ℕ) (usable : List Bool) (units : ℕ) → well_formed w ≡ true → ((i : ℕ) → get_or free i 0 ≡ free_in w i)
    → ((i : ℕ) → i < most_links → get_or usable i false ≡ leb units (get_or free i 0))
    → (i : ℕ) → i < links_in w → get_or usable i false ≡ leb units (free_in w i)
flags w free usable units formed is flagged i low = flagged i (omega (arith, low, formed_links w formed)) ∙ ap (leb units) (is i)

pub invariant_of-network-clause-table : goal.invariant_of-network-clause-table
invariant_of-network-clause-table c =
    table_held c.args.station.now.area.now c.args.station.now.formed c.args.r
    (record { nodes = c.nodes.ensures; count = c.links.ensures.count; words = c.links.ensures.words; flagged = flags _ _ _ _ c.args.station.now.formed c.args.station.now.units c.put_usable.ensures; delayed = c.put_delays.ensures; priced = c.put_costs.ensures })

pub search-requires : goal.search-requires
search-requires c =
    search_ready c.args.station.now.area.now c.args.station.now.formed c.args.r
    (record { nodes = c.nodes.ensures; count = c.links.ensures.count; words = c.links.ensures.words; flagged = flags _ _ _ _ c.args.station.now.formed c.args.station.now.units c.put_usable.ensures; delayed = c.put_delays.ensures; priced = c.put_costs.ensures })
    c.args.work.now c.args.path.now c.requires

pub returns-in_err-grant : goal.returns-in_err-grant
returns-in_err-grant c =
    let w = c.args.station.now.area.now in
    let handed : Handed w c.args.r c.nodes.result c.links.result.count c.links.result.words.now c.put_usable.new.usable c.put_delays.new.delays c.put_costs.new.costs =
    (record { nodes = c.nodes.ensures; count = c.links.ensures.count; words = c.links.ensures.words; flagged = flags _ _ _ _ c.args.station.now.formed c.args.station.now.units c.put_usable.ensures; delayed = c.put_delays.ensures; priced = c.put_costs.ensures }) in
    let fails = failed w c.args.station.now.formed c.args.r handed c.args.work.now c.args.path.now c.requires _ c.in_err-grant.ensures.answer in
    record {
      answer = search rules;
      path = c.search.ensures.path ∙ written w c.args.station.now.formed c.args.r handed c.args.work.now c.args.path.now c.requires _;
    }

pub returns : goal.returns
returns c =
    let w = c.args.station.now.area.now in
    let handed : Handed w c.args.r c.nodes.result c.links.result.count c.links.result.words.now c.put_usable.new.usable c.put_delays.new.delays c.put_costs.new.costs =
    (record { nodes = c.nodes.ensures; count = c.links.ensures.count; words = c.links.ensures.words; flagged = flags _ _ _ _ c.args.station.now.formed c.args.station.now.units c.put_usable.ensures; delayed = c.put_delays.ensures; priced = c.put_costs.ensures }) in
    record {
      answer = found w c.args.station.now.formed c.args.r handed c.args.work.now c.args.path.now c.requires _ c.in_ok-grant.ensures.answer;
      path = c.search.ensures.path ∙ written w c.args.station.now.formed c.args.r handed c.args.work.now c.args.path.now c.requires _;
    }
