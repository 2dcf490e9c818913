use Rattle.std.proofs.Common.{rules, ◌≡◌, ◌∷◌, ◌++◌, [], ◌+◌, drop, sym, subst, ◌∙◌}
use Rattle.trial_keeping.specs.RecordFits.{AreAscending}
use Rattle.trial_loading.proofs.FileOrder.{AreAhead, ahead_one, nothing_there, put_behind}
use Rattle.trial_loading.proofs.GatheredItems.{front_at, one_file, FilesSoFar}
use Rattle.prov_outside.specs.Tells.{Tells}
use Rattle.trial_loading.proofs.files.keep_files.Goals as goal

pub keep_file-requires-clause-absent : goal.keep_file-requires-clause-absent
keep_file-requires-clause-absent g c =
    let i = c.loop-file.file-index in
    let files = c.args.files.now in
    let is = front_at files i c.file-item.result c.loop-file-test.true c.file-item.is in
    nothing_there c.loop-file.capture.files c.file-item.result (drop (i + 1) files) (subst (AreAhead c.loop-file.capture.files) is c.loop-file.invariant.ahead)

pub loop-file-preserved : goal.loop-file-preserved
loop-file-preserved g c =
    let i = c.loop-file.file-index in
    let files = c.args.files.now in
    let file = c.file-item.result in
    let front = c.loop-file.capture.files in
    let kept = c.keep_file.new.capture.files in
    let is = front_at files i file c.loop-file-test.true c.file-item.is in
    let ahead = subst (AreAhead front) is c.loop-file.invariant.ahead in
    let up = subst AreAscending is c.loop-file.invariant.ascend in
    let put = c.in_default.ensures.put in
    let behind : kept ≡ front ++ (file.path, put.0) ∷ [] = put.1 ∙ put_behind front file put.0 (drop (i + 1) files) ahead in
    record {
      reads = one_file c.in_default.field-0 files front kept file (drop (i + 1) files) ahead _ _ _
          (subst (λ rest. Tells (g.K.Keeper.told c.args.keeper.now) (g.K.Keeper.told c.loop-file.keeper) (FilesSoFar files front rest)) is c.loop-file.invariant.reads) c.in_default.ensures.finds;
      ahead = subst (λ items. AreAhead items (drop (i + 1) files)) (sym behind) (ahead_one front file put.0 (drop (i + 1) files) ahead up);
      ascend = up.1;
      others = search rules;
      kept = search rules;
      stops = search rules;
      batch = search rules;
      causes = search rules;
    }
