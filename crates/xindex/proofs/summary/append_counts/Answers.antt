use Rattle.std.proofs.Common.{◌≡◌, ◌++◌, codes}
use Rattle.std.proofs.lemmas.Result.{on_ok_weaker}
use Rattle.trace_text.specs.declared.counting.Form.TheVariants.{Value, NoValue, New, Old, Full, Worn, End}
use Rattle.trace_text.specs.Counts.{all_replies, count_of}
use Rattle.trace_text.specs.Text.{number_line}
use Rattle.xindex.proofs.Counting.{first_line, next_line}
use Rattle.xindex.proofs.summary.append_counts.Goals as goal

pub returns : goal.returns
returns c =
    on_ok_weaker c.append_number-7.result
    (λ last replies is.
    let rs = all_replies replies in
    let start = c.args.text.now.items in
    let one : c.append_number.new.text.items ≡ start ++ number_line (codes "value ") (count_of Value rs) =
    first_line start c.append_number.new.text.items (codes "value ") c.reply_count.result (count_of Value rs) c.in_ok-append_number.ensures (c.reply_count.ensures replies is) in
    let two : c.append_number-2.new.text.items ≡ start ++ (number_line (codes "value ") (count_of Value rs) ++ number_line (codes "none ") (count_of NoValue rs)) =
    next_line start c.append_number.new.text.items c.append_number-2.new.text.items (number_line (codes "value ") (count_of Value rs)) (codes "none ") c.reply_count-2.result (count_of NoValue rs) one c.in_ok-append_number-2.ensures (c.reply_count-2.ensures replies is) in
    let three : c.append_number-3.new.text.items ≡ start ++ (number_line (codes "value ") (count_of Value rs) ++ number_line (codes "none ") (count_of NoValue rs) ++ number_line (codes "new ") (count_of New rs)) =
    next_line start c.append_number-2.new.text.items c.append_number-3.new.text.items (number_line (codes "value ") (count_of Value rs) ++ number_line (codes "none ") (count_of NoValue rs)) (codes "new ") c.reply_count-3.result (count_of New rs) two c.in_ok-append_number-3.ensures (c.reply_count-3.ensures replies is) in
    let four : c.append_number-4.new.text.items ≡ start ++ (number_line (codes "value ") (count_of Value rs) ++ number_line (codes "none ") (count_of NoValue rs) ++ number_line (codes "new ") (count_of New rs) ++ number_line (codes "old ") (count_of Old rs)) =
    next_line start c.append_number-3.new.text.items c.append_number-4.new.text.items (number_line (codes "value ") (count_of Value rs) ++ number_line (codes "none ") (count_of NoValue rs) ++ number_line (codes "new ") (count_of New rs)) (codes "old ") c.reply_count-4.result (count_of Old rs) three c.in_ok-append_number-4.ensures (c.reply_count-4.ensures replies is) in
    let five : c.append_number-5.new.text.items ≡ start ++ (number_line (codes "value ") (count_of Value rs) ++ number_line (codes "none ") (count_of NoValue rs) ++ number_line (codes "new ") (count_of New rs) ++ number_line (codes "old ") (count_of Old rs) ++ number_line (codes "full ") (count_of Full rs)) =
    next_line start c.append_number-4.new.text.items c.append_number-5.new.text.items (number_line (codes "value ") (count_of Value rs) ++ number_line (codes "none ") (count_of NoValue rs) ++ number_line (codes "new ") (count_of New rs) ++ number_line (codes "old ") (count_of Old rs)) (codes "full ") c.reply_count-5.result (count_of Full rs) four c.in_ok-append_number-5.ensures (c.reply_count-5.ensures replies is) in
    let six : c.append_number-6.new.text.items ≡ start ++ (number_line (codes "value ") (count_of Value rs) ++ number_line (codes "none ") (count_of NoValue rs) ++ number_line (codes "new ") (count_of New rs) ++ number_line (codes "old ") (count_of Old rs) ++ number_line (codes "full ") (count_of Full rs) ++ number_line (codes "worn ") (count_of Worn rs)) =
    next_line start c.append_number-5.new.text.items c.append_number-6.new.text.items (number_line (codes "value ") (count_of Value rs) ++ number_line (codes "none ") (count_of NoValue rs) ++ number_line (codes "new ") (count_of New rs) ++ number_line (codes "old ") (count_of Old rs) ++ number_line (codes "full ") (count_of Full rs)) (codes "worn ") c.reply_count-6.result (count_of Worn rs) five c.in_ok-append_number-6.ensures (c.reply_count-6.ensures replies is) in
    next_line start c.append_number-6.new.text.items c.append_number-7.new.text.items (number_line (codes "value ") (count_of Value rs) ++ number_line (codes "none ") (count_of NoValue rs) ++ number_line (codes "new ") (count_of New rs) ++ number_line (codes "old ") (count_of Old rs) ++ number_line (codes "full ") (count_of Full rs) ++ number_line (codes "worn ") (count_of Worn rs)) (codes "end ") c.reply_count-7.result (count_of End rs) six last (c.reply_count-7.ensures replies is))
    c.append_number-7.ensures
