use Rattle.std.proofs.Common.{take, refl, ap, arith}
use Rattle.machine_arrays.specs.Arrays.{array_keys}
use Rattle.index_rule.specs.Hands.{known, opening_of}
use Rattle.sorted_group.proofs.KeyReads.{in_first, index_fits, key_is, le_length, list_on, may_on}
use Rattle.sorted_group.proofs.KeyReads.{more_since, one_more}
use Rattle.sorted_group.proofs.KeyReads.{reads_one, sees_index}
use Rattle.sorted_group.proofs.group_keys.GroupKeysKeys.key.Goals as goal

pub overflow_cast-i : goal.overflow_cast-i
overflow_cast-i c =
    let s = c.args.self.now in
    let keys = array_keys (opening_of s.board.now) s.group (known s.hand.now) in
    let within = in_first s.len c.args.i keys s.fits c.requires in
    let fits = index_fits s.board.now s.group c.args.i s.hand.now s.of within.1 in
    let most = (opening_of s.board.now).layout.kept.most_group_size in
    omega arith

pub array_place-place-requires-clause-index : goal.array_place-place-requires-clause-index
array_place-place-requires-clause-index c =
    let s = c.args.self.now in
    let keys = array_keys (opening_of s.board.now) s.group (known s.hand.now) in
    index_fits s.board.now s.group c.args.i s.hand.now s.of (in_first s.len c.args.i keys s.fits c.requires).1

pub load_key-requires-clause-may : goal.load_key-requires-clause-may
load_key-requires-clause-may c =
    let s = c.args.self.now in
    let keys = array_keys (opening_of s.board.now) s.group (known s.hand.now) in
    rw c.array_place-place.ensures
    (sees_index s.board.now s.group c.args.i s.hand.now s.of
    (in_first s.len c.args.i keys s.fits c.requires).1 s.may)

pub invariant_of-self : goal.invariant_of-self
invariant_of-self c =
    let s = c.args.self.now in
    let l = c.load_key.ensures in
    let same = list_on s.board.now s.group c.args.i c.array_place-place.result c.load_key.result s.hand.now
    c.load_key.new.hand s.of c.array_place-place.ensures l s.may in
    let more = one_more s.board.now s.group c.args.i c.array_place-place.result c.load_key.result s.hand.now
    c.load_key.new.hand s.of c.array_place-place.ensures l in
    record {
      of = l.of;
      in_table = s.in_table;
      may = may_on s.board.now s.group c.args.i c.array_place-place.result c.load_key.result s.hand.now
          c.load_key.new.hand s.of c.array_place-place.ensures l s.may;
      fits = le_length s.len (array_keys (opening_of s.board.now) s.group (known s.hand.now))
          (array_keys (opening_of s.board.now) s.group (known c.load_key.new.hand)) same s.fits;
      since = (more_since s.hand.now c.load_key.new.hand (known s.made.value) l.number more s.since).0;
    }

pub returns-clause-key : goal.returns-clause-key
returns-clause-key c =
    let s = c.args.self.now in
    let keys = array_keys (opening_of s.board.now) s.group (known s.hand.now) in
    key_is s.board.now s.group c.args.i c.array_place-place.result c.load_key.result s.hand.now
    c.load_key.new.hand s.of c.array_place-place.ensures c.load_key.ensures s.may s.len
    (in_first s.len c.args.i keys s.fits c.requires).0 s.fits

pub returns-clause-list : goal.returns-clause-list
returns-clause-list c =
    let s = c.args.self.now in
    ap (take s.len)
    (list_on s.board.now s.group c.args.i c.array_place-place.result c.load_key.result s.hand.now
    c.load_key.new.hand s.of c.array_place-place.ensures c.load_key.ensures s.may)

pub returns-clause-reads_kept : goal.returns-clause-reads_kept
returns-clause-reads_kept c =
    let s = c.args.self.now in
    let more = one_more s.board.now s.group c.args.i c.array_place-place.result c.load_key.result s.hand.now
    c.load_key.new.hand s.of c.array_place-place.ensures c.load_key.ensures in
    let raised = (more_since s.hand.now c.load_key.new.hand (known s.made.value) c.load_key.ensures.number more
    s.since).1 in
    omega (arith, raised)

pub returns-clause-reads_raised : goal.returns-clause-reads_raised
returns-clause-reads_raised c =
    let s = c.args.self.now in
    let more = one_more s.board.now s.group c.args.i c.array_place-place.result c.load_key.result s.hand.now
    c.load_key.new.hand s.of c.array_place-place.ensures c.load_key.ensures in
    let raised = (more_since s.hand.now c.load_key.new.hand (known s.made.value) c.load_key.ensures.number more
    s.since).1 in
    omega (arith, raised)

pub returns-clause-leads : goal.returns-clause-leads
returns-clause-leads c =
    let s = c.args.self.now in
    let keys = array_keys (opening_of s.board.now) s.group (known s.hand.now) in
    record {
      hand = refl;
      board = refl;
      group = refl;
      loads = reads_one s.board.now s.group c.args.i c.array_place-place.result c.load_key.result s.hand.now
          c.load_key.new.hand s.of c.array_place-place.ensures c.load_key.ensures
          (index_fits s.board.now s.group c.args.i s.hand.now s.of
          (in_first s.len c.args.i keys s.fits c.requires).1);
    }
