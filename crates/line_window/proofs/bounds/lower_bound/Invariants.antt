use Rattle.std.proofs.Common.{◌≡◌, ◌+◌, ◌-◌, ◌^◌, ◌<◌, ◌≤◌, length}
use Rattle.line_window.specs.Search.{count_below, comparisons, probes_of}
use Rattle.line_window.proofs.bounds.lower_bound.Given as goal

-- the answer stays between the ends, and the comparisons that are left make up what a search costs
abbrev pub invariant-loop-low : goal.invariant-loop-low
invariant-loop-low g l =
    let keys = g.K.Keys.list l.fn.keys in
    record {
      list : g.K.Keys.list l.keys ≡ keys;
      origin : g.K.Keys.origin l.keys ≡ g.K.Keys.origin l.fn.keys;
      above : l.low ≤ count_below keys l.key;
      below : count_below keys l.key ≤ l.high;
      within : l.high ≤ length keys;
      cost : l.comparisons + comparisons (count_below keys l.key) l.low l.high ≡ probes_of keys l.key;
      fits : l.comparisons + (l.high - l.low) < 2 ^ 64;
      reads : g.K.Keys.reads l.keys ≤ g.K.Keys.reads l.fn.keys + l.comparisons;
      reads_kept : g.K.Keys.reads l.fn.keys ≤ g.K.Keys.reads l.keys;
      leads : g.K.Keys.leads_to l.fn.keys l.keys;
    }

abbrev pub decreases-loop-low : goal.decreases-loop-low
decreases-loop-low g l = l.high - l.low
