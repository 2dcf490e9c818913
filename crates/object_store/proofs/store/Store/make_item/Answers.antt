use Rattle.std.proofs.Common.{◌≡◌, ap, ◌∙◌, arith, ◌<◌, length}
use Rattle.object_store.specs.Store.{StoreView, object_at}
use Rattle.object_store.proofs.Reserving.{object_keeps}
use Rattle.object_store.proofs.Sparing.{places_here, places_next}
use Rattle.object_store.proofs.store.Store.make_item.Goals as goal

pub returns-in_err-make_item_of-clause-keeps : goal.returns-in_err-make_item_of-clause-keeps
returns-in_err-make_item_of-clause-keeps c =
    let count : c.len.result ≡ length c.args.self.now.objects = c.len.ensures.count ∙ ap (λ (s : StoreView). length s.objects) c.self.view_is in
    let within : c.args.o < length c.args.self.now.objects = omega arith in
    object_keeps c.args.self.now c.make_item_of.new.self c.args.o (object_at c.make_item_of.new.self c.args.o) within c.make_item_of.ensures.same c.make_item_of.ensures.grows

pub returns-in_ok-make_item_of-clause-keeps : goal.returns-in_ok-make_item_of-clause-keeps
returns-in_ok-make_item_of-clause-keeps c =
    let count : c.len.result ≡ length c.args.self.now.objects = c.len.ensures.count ∙ ap (λ (s : StoreView). length s.objects) c.self.view_is in
    let within : c.args.o < length c.args.self.now.objects = omega arith in
    object_keeps c.args.self.now c.make_item_of.new.self c.args.o (object_at c.make_item_of.new.self c.args.o) within c.make_item_of.ensures.same c.make_item_of.ensures.grows

pub returns-in_ok-make_item_of-clause-few : goal.returns-in_ok-make_item_of-clause-few
returns-in_ok-make_item_of-clause-few c =
    let count : c.len.result ≡ length c.args.self.now.objects = c.len.ensures.count ∙ ap (λ (s : StoreView). length s.objects) c.self.view_is in
    let within : c.args.o < length c.args.self.now.objects = omega arith in
    λ keys bytes. places_here c.args.self.now c.make_item_of.new.self c.args.o (object_at c.make_item_of.new.self c.args.o) within c.make_item_of.ensures.same c.make_item_of.ensures.grows.keys_stay
    c.make_item_of.ensures.spare c.args.i c.in_ok-make_item_of.ensures.few keys bytes

pub returns-in_ok-make_item_of_next-clause-few : goal.returns-in_ok-make_item_of_next-clause-few
returns-in_ok-make_item_of_next-clause-few c =
    let count : c.len.result ≡ length c.args.self.now.objects = c.len.ensures.count ∙ ap (λ (s : StoreView). length s.objects) c.self.view_is in
    let last : c.args.o ≡ length c.args.self.now.objects = omega arith in
    λ keys bytes. places_next c.args.self.now c.make_item_of_next.new.self c.args.o c.make_item_of_next.new.self.next_object last c.make_item_of_next.ensures.same c.make_item_of_next.ensures.grows.keys_stay
    c.make_item_of_next.ensures.spare c.args.i c.in_ok-make_item_of_next.ensures.few keys bytes
