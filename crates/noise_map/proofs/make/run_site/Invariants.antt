-- The lines so far were done, and those that are left.
use Rattle.std.proofs.Common.{◌≡◌, ◌+◌, ◌≤◌, ◌++◌, length, take}
use Rattle.map_io.specs.Lines.{lines}
use Rattle.path_calc.specs.Levels.{IsLevel}
use Rattle.noise_map.specs.SiteSummary.{summary_of, made_by, site_lines}
use Rattle.noise_map.specs.inner.Progress.{LinesDone}
use Rattle.noise_map.specs.inner.Steps.{Knows}
use Rattle.noise_map.proofs.make.run_site.Given as goal

abbrev pub invariant-loop-line : goal.invariant-loop-line
invariant-loop-line g l = record {
  whole : take l.lines (site_lines l.number) ++ lines l.rest ≡ site_lines l.number;
  counted : l.lines + length (lines l.rest) ≡ length (site_lines l.number);
  did : LinesDone l.initial.editor.seat l.editor (take l.lines (site_lines l.number));
  made : l.summary ≡ summary_of (made_by (take l.lines (site_lines l.number)));
  few : l.lines + length l.rest ≤ 65536;
  refused : l.summary.refused ≤ l.lines;
  level : IsLevel l.summary.span;
  own : l.editor.seat.table ≡ l.context.lock.now;
  knows : Knows l.editor;
}

abbrev pub decreases-loop-line : goal.decreases-loop-line
decreases-loop-line g l = length l.rest
