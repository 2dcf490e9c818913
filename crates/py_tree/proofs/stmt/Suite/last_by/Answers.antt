use Rattle.std.proofs.Common.{rules, arith}
use Rattle.std.specs.Prelude.{nat_le}
use Rattle.std.proofs.lemmas.List.Sorted.{IsPartitionPoint-from_clause}
use Rattle.py_tree.specs.declared.stmt.Stmt.{Stmt}
use Rattle.py_tree.proofs.OwnersWays.{row_is_parted, row_last}
use Rattle.py_tree.proofs.stmt.Suite.last_by.Goals as goal

pub returns : goal.returns
returns c rise = row_last c.args.s c.args.self.now c.deref.result.now c.deref-2.result.now c.partition_point-count.result _ c.last.result c.deref.ensures.value c.deref-2.ensures.value c.partition_point-count.ensures.bound (IsPartitionPoint-from_clause (λ (x : Stmt). nat_le x.no c.args.s) _ _ c.partition_point-count.ensures.partitioned (row_is_parted c.args.s c.args.self.now _ c.deref.ensures.value rise) (λ a r f k. search rules)) (omega arith) c.last.ensures.value
