use Rattle.std.proofs.Common.{[], ◌∷◌, codes, refl, ap}
use Rattle.py_value.specs.Values.{ValuesView}
use Rattle.object_store.proofs.Beginning.{front_whole}
use Rattle.object_store.proofs.store.opening.own_name.Goals as goal

pub returns-in_err-main-clause-front : goal.returns-in_err-main-clause-front
returns-in_err-main-clause-front c = record {
  front = codes "__name__" ∷ [];
  rest = codes "__main__" ∷ [];
  split = refl;
  adds = (c.text.new.self.texts, (c.in_ok-name.ensures.texts, ap (λ (v : ValuesView). v.texts) c.in_err-main.ensures.err));
}

pub returns-clause-front : goal.returns-clause-front
returns-clause-front c = front_whole c.args.values.now.texts c.text-2.new.self.texts (codes "__name__" ∷ codes "__main__" ∷ [])
    (c.text.new.self.texts, (c.in_ok-name.ensures.texts, (c.text-2.new.self.texts, (c.in_ok-main.ensures.texts, refl))))
