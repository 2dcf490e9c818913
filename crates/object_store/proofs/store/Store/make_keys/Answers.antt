use Rattle.std.proofs.Common.{◌≡◌, ap, sym, subst, ◌∙◌, arith, ◌<◌, ◌≤◌, ◌+◌, ◌*◌, max, length}
use Rattle.object_store.specs.Object.{ObjectView}
use Rattle.object_store.specs.Store.{StoreView, object_at, room_with_next}
use Rattle.object_store.proofs.Reserving.{object_keeps}
use Rattle.object_store.proofs.Sparing.{keys_here, keys_next, ready, there}
use Rattle.object_store.proofs.store.Store.make_keys.Goals as goal

pub returns-in_err-make_keys_of-clause-keeps : goal.returns-in_err-make_keys_of-clause-keeps
returns-in_err-make_keys_of-clause-keeps c =
    let count : c.len.result ≡ length c.args.self.now.objects = c.len.ensures.count ∙ ap (λ (s : StoreView). length s.objects) c.self.view_is in
    let within : c.args.o < length c.args.self.now.objects = omega arith in
    object_keeps c.args.self.now c.make_keys_of.new.self c.args.o (object_at c.make_keys_of.new.self c.args.o) within c.make_keys_of.ensures.same c.make_keys_of.ensures.grows

pub returns-in_ok-make_keys_of-clause-keeps : goal.returns-in_ok-make_keys_of-clause-keeps
returns-in_ok-make_keys_of-clause-keeps c =
    let count : c.len.result ≡ length c.args.self.now.objects = c.len.ensures.count ∙ ap (λ (s : StoreView). length s.objects) c.self.view_is in
    let within : c.args.o < length c.args.self.now.objects = omega arith in
    object_keeps c.args.self.now c.make_keys_of.new.self c.args.o (object_at c.make_keys_of.new.self c.args.o) within c.make_keys_of.ensures.same c.make_keys_of.ensures.grows

pub returns-in_ok-make_keys_of-clause-few : goal.returns-in_ok-make_keys_of-clause-few
returns-in_ok-make_keys_of-clause-few c =
    let count : c.len.result ≡ length c.args.self.now.objects = c.len.ensures.count ∙ ap (λ (s : StoreView). length s.objects) c.self.view_is in
    let within : c.args.o < length c.args.self.now.objects = omega arith in
    let few = subst (λ (ob : ObjectView). (object_at c.make_keys_of.new.self c.args.o).spare ≤ max (object_at c.args.self.now c.args.o).spare (length ob.keys + 2 * c.args.count + 64))
    (sym (there c.args.self.now.objects c.args.self.now.next_object c.args.o within)) c.in_ok-make_keys_of.ensures.few in
    λ bytes. keys_here c.args.self.now c.make_keys_of.new.self c.args.o (object_at c.make_keys_of.new.self c.args.o) within c.make_keys_of.ensures.same c.make_keys_of.ensures.grows.keys_stay
    c.make_keys_of.ensures.places c.args.count few bytes

pub returns-in_ok-make_keys_of_next-clause-few : goal.returns-in_ok-make_keys_of_next-clause-few
returns-in_ok-make_keys_of_next-clause-few c =
    let count : c.len.result ≡ length c.args.self.now.objects = c.len.ensures.count ∙ ap (λ (s : StoreView). length s.objects) c.self.view_is in
    let last : c.args.o ≡ length c.args.self.now.objects = omega arith in
    let few = subst (λ (ob : ObjectView). c.make_keys_of_next.new.self.next_object.spare ≤ max c.args.self.now.next_object.spare (length ob.keys + 2 * c.args.count + 64))
    (sym (ready c.args.self.now.objects c.args.self.now.next_object c.args.o last)) c.in_ok-make_keys_of_next.ensures.few in
    λ bytes. keys_next c.args.self.now c.make_keys_of_next.new.self c.args.o c.make_keys_of_next.new.self.next_object last c.make_keys_of_next.ensures.same c.make_keys_of_next.ensures.grows.keys_stay
    c.make_keys_of_next.ensures.places c.args.count few bytes
