-- The words are put into a line of blanks first, and then the line and its line feed.
use Rattle.std.proofs.Common.{refl, rules}
use Rattle.text.proofs.Puts.{◌then◌, put_back}
use Rattle.page_lines.proofs.Padded.{foot_put}
use Rattle.page_lines.proofs.foot.Goals as goal

pub returns : goal.returns
returns c =
    let words = c.put.ensures then c.number.ensures then c.put-2.ensures then c.number-2.ensures in
    let start = c.new-words.ensures in
    foot_put c.args.page c.args.pages (put_back start.same_reference start.value words (search rules) refl) c.put-3.ensures c.put-4.ensures
