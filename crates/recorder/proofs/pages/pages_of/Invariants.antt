use Rattle.std.proofs.Common.{◌≡◌, ◌++◌, drop}
use Rattle.recorder.specs.PageCuts.{pages, pages_behind}
use Rattle.recorder.proofs.pages.pages_of.Given as goal

-- the pages that are done, and those of what is left behind the open one
abbrev pub invariant-loop-row : goal.invariant-loop-row
invariant-loop-row l = l.done.items ++ pages_behind l.page.items (drop l.row-index l.rows) ≡ pages l.rows
