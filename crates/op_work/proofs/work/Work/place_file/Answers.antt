use Rattle.std.proofs.Common.{◌<◌, length, sym, subst}
use Rattle.object_store.specs.Named.{IsNamedStore}
use Rattle.object_store.specs.Room.{AreWithin}
use Rattle.object_store.specs.Store.{StoreView, bytes}
use Rattle.py_value.specs.declared.access.Location.TheVariants.{File}
use Rattle.op_work.specs.Work.{WorkView, AreThere}
use Rattle.op_work.proofs.Named.{by_answer, count_placed, there_placed}
use Rattle.op_work.proofs.work.Work.place_file.Goals as goal

pub invariant_of-self : goal.invariant_of-self
invariant_of-self c =
    let w = c.self.inside in
    let new = c.place_file.new.self in
    let within = subst (λ (v : WorkView). c.args.path < length v.values.texts) (sym c.self.view_is) c.requires in (
      c.self.invariant.0,
      (
        (
          c.self.invariant.1.0.0,
          by_answer c.place_file.result c.place_file.ensures.held c.place_file.ensures.err
              (λ put. c.named_stays.ensures.written w.values w.store new (File c.args.path) (bytes c.args.bytes.now) c.self.invariant.1.0.1 within tt put)
              (λ same. subst (λ (s : StoreView). IsNamedStore w.values s) (sym same) c.self.invariant.1.0.1),
        ),
        (
          c.self.invariant.1.1.0,
          (
            c.self.invariant.1.1.1.0,
            (
              subst (λ n. AreWithin n w.touched.items) (sym (count_placed w.made w.store new c.place_file.ensures.same)) c.self.invariant.1.1.1.1.0,
              by_answer c.place_file.result c.place_file.ensures.held c.place_file.ensures.err
                  (λ put. there_placed w.store new c.args.path c.args.bytes.now put w.touched.items c.self.invariant.1.1.1.1.1)
                  (λ same. subst (λ (s : StoreView). AreThere s w.touched.items) (sym same) c.self.invariant.1.1.1.1.1),
            ),
          ),
        ),
      ),
    )
