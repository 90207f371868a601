-- `linktext::text::behind_spaces` meets its contract. Assumes nothing.
use Rattle.std.proofs.Common.{◌≤◌, length, rules, arith}
use Rattle.std.proofs.lemmas.List.Sums.{prefix_len-le-length}
use Rattle.linktext.specs.Texts.{is_space}
use Rattle.linktext.proofs.TextLaws.{behind}
use Rattle.linktext.proofs.text.behind_spaces.Goals as goal

pub slice_bounds-result-count : goal.slice_bounds-result-count
slice_bounds-result-count c = omega (arith, c.spaces.ensures, prefix_len-le-length is_space c.args.text.now)

pub slice_bounds-result-start : goal.slice_bounds-result-start
slice_bounds-result-start c =
    let h : c.spaces.result ≤ length c.args.text.now = omega (arith, c.spaces.ensures, prefix_len-le-length is_space c.args.text.now) in search rules

pub returns : goal.returns
returns c = behind c.args.text.now c.spaces.ensures
