use Rattle.prov_outside.proofs.LastOf.{Puts-append}
use Rattle.prov_outside.proofs.memory_folder.MemoryFolderFolder.put.Goals as goal

pub returns-clause-put : goal.returns-clause-put
returns-clause-put c =
    rw (← c.self.view_is) (Puts-append c.self.inside.files.items c.push.new.self.items c.in_ok-file.file c.args.path.now c.args.bytes.now c.in_ok-push.ensures.items c.in_ok-file.ensures.ok)
