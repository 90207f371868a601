-- `sweep::spans::find_sets` meets its contract: no run that matters ends with the span; or the search starts where it may. Assumes nothing.
use mathlib.Core.Path.{sym, subst}
use Rattle.sweep.proofs.SpanLaws.{Start, all_start, one_start, span_graph, span_none, alone_known, alone_below, span_adds, unseen_absent}
use Rattle.sweep.proofs.spans.find_sets.Goals as goal
use Rattle.sweep.proofs.spans.find_sets.Goals.{After-pairs-pairs, in-OneRun, in-Several}

pub returns-in-NoRun : goal.returns-in-NoRun
returns-in-NoRun c = span_none c.requires.0 c.requires.1 c.in-NoRun.is c.requires.2

pub run_at-run-requires : goal.run_at-run-requires
run_at-run-requires c = alone_known c.requires.0 (c.requires.1.alone _ c.in-OneRun.is)

pub links-requires : goal.links-requires
links-requires c = (alone_below c.requires.0 (c.requires.1.alone _ c.in-OneRun.is) c.run_at-run.ensures).0

pub links-requires-in-OneRun : goal.links-requires-in-OneRun
links-requires-in-OneRun c = (alone_below c.requires.0 (c.requires.1.alone _ c.in-OneRun.is) c.run_at-run.ensures).1

-- where the search starts
start : (c : After-pairs-pairs) → Start c.args.ending.now.runs.now c.args.hour.now.begin c.args.y c.args.adj.now c.args.hour.now.wide c.match-inner.clique
start c =
    elim c.match-inner.branch [
      | in-OneRun w ↦ subst (Start c.args.ending.now.runs.now c.args.hour.now.begin c.args.y c.args.adj.now c.args.hour.now.wide) (sym w.clique-is)
          (one_start c.requires.0 (c.requires.1.alone _ w.in-OneRun.is) w.run_at-run.ensures w.only.ensures w.only-in-OneRun.ensures w.links.ensures w.links-in-OneRun.ensures)
      | in-Several w ↦ subst (Start c.args.ending.now.runs.now c.args.hour.now.begin c.args.y c.args.adj.now c.args.hour.now.wide) (sym w.clique-is)
          (all_start c.args.ending.now.runs.now c.args.hour.now.begin c.args.y c.args.adj.now c.args.hour.now.wide)
    ]

pub search-requires : goal.search-requires
search-requires c =
    record {
      graph = span_graph c.requires.0;
      node = (start (goal.at.search-requires c).After-pairs-pairs).root.node;
      loose = c.requires.2;
      absent = unseen_absent c.requires.3;
    }

pub returns : goal.returns
returns c = span_adds _ c.requires.0 c.pairs-pairs.ensures (start (goal.at.returns c).After-pairs-pairs) _ _ _ _ c.search.ensures
