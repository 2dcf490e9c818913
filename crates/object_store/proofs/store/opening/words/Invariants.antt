use Rattle.std.proofs.Common.{◌∷◌, take}
use Rattle.object_store.specs.Opening.{AreWords, GainsTexts, AddsAll}
use Rattle.object_store.proofs.store.opening.words.Given as goal

abbrev pub invariant-loop-argument : goal.invariant-loop-argument
invariant-loop-argument l =
    AreWords l.values l.items.items (l.path ∷ take l.argument-index l.arguments) × GainsTexts l.fn.values l.values
    × AddsAll l.fn.values.texts l.values.texts (l.path ∷ take l.argument-index l.arguments)
