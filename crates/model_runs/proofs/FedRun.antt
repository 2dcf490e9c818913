-- The sources and the effects of evaluations, found by computation from whole runs. What is expected comes from a reading of the rules that shares nothing with the definitions.
use Rattle.std.proofs.Common.{◌≡◌, ℕ, List, [], ◌∷◌, reverse, refl}
use Rattle.std.specs.Str.{chars, is_utf8}
use Rattle.std.specs.Char.{encode_utf8}
use Rattle.py_model.specs.Meaning.{level}
use Rattle.feedings.specs.declared.site.Site.{Site}
use Rattle.model_runs.specs.Fed.{sources, effects}
use Rattle.model_runs.specs.Words.{place}
use Rattle.model_runs.proofs.AliasRun.{r_alias_tree, r_alias_run}
use Rattle.model_runs.proofs.DictRun.{r_dict_tree, r_dict_run}
use Rattle.model_runs.proofs.RepeatRun.{r_repeat_tree, r_repeat_run}

abbrev site : ℕ → ℕ → ℕ → Site
site line column k = record { at = place line column; k = k }

r_alias_effects_0 : effects r_alias_tree (reverse r_alias_run.moments) (place 6 7, 1) ≡ site 6 6 1 ∷ []
unfolding is_utf8 chars encode_utf8 level
r_alias_effects_0 = refl

r_alias_sources_1 : sources r_alias_tree (reverse r_alias_run.moments) (place 1 9, 1) ≡ []
unfolding is_utf8 chars encode_utf8 level
r_alias_sources_1 = refl

r_alias_effects_1 : effects r_alias_tree (reverse r_alias_run.moments) (place 1 9, 1) ≡ site 1 5 1 ∷ site 2 5 1 ∷ site 4 1 1 ∷ site 4 9 1 ∷ site 6 7 1 ∷ site 6 6 1 ∷ []
unfolding is_utf8 chars encode_utf8 level
r_alias_effects_1 = refl

r_alias_sources_2 : sources r_alias_tree (reverse r_alias_run.moments) (place 3 5, 1) ≡ site 3 6 1 ∷ []
unfolding is_utf8 chars encode_utf8 level
r_alias_sources_2 = refl

r_alias_effects_2 : effects r_alias_tree (reverse r_alias_run.moments) (place 3 5, 1) ≡ site 5 1 1 ∷ site 5 9 1 ∷ []
unfolding is_utf8 chars encode_utf8 level
r_alias_effects_2 = refl

r_dict_sources_0 : sources r_dict_tree (reverse r_dict_run.moments) (place 4 6, 1) ≡ site 1 5 1 ∷ site 2 10 1 ∷ site 2 1 1 ∷ site 2 3 1 ∷ site 4 5 1 ∷ site 4 7 1 ∷ []
unfolding is_utf8 chars encode_utf8 level
r_dict_sources_0 = refl

r_dict_effects_0 : effects r_dict_tree (reverse r_dict_run.moments) (place 4 6, 1) ≡ []
unfolding is_utf8 chars encode_utf8 level
r_dict_effects_0 = refl

r_dict_sources_1 : sources r_dict_tree (reverse r_dict_run.moments) (place 2 10, 1) ≡ []
unfolding is_utf8 chars encode_utf8 level
r_dict_sources_1 = refl

r_dict_effects_1 : effects r_dict_tree (reverse r_dict_run.moments) (place 2 10, 1) ≡ site 4 6 1 ∷ []
unfolding is_utf8 chars encode_utf8 level
r_dict_effects_1 = refl

r_dict_sources_2 : sources r_dict_tree (reverse r_dict_run.moments) (place 2 1, 1) ≡ site 1 5 1 ∷ []
unfolding is_utf8 chars encode_utf8 level
r_dict_sources_2 = refl

r_dict_effects_2 : effects r_dict_tree (reverse r_dict_run.moments) (place 2 1, 1) ≡ site 4 6 1 ∷ []
unfolding is_utf8 chars encode_utf8 level
r_dict_effects_2 = refl

r_repeat_effects_0 : effects r_repeat_tree (reverse r_repeat_run.moments) (place 5 7, 1) ≡ site 5 6 1 ∷ []
unfolding is_utf8 chars encode_utf8 level
r_repeat_effects_0 = refl

r_repeat_sources_1 : sources r_repeat_tree (reverse r_repeat_run.moments) (place 3 11, 1) ≡ []
unfolding is_utf8 chars encode_utf8 level
r_repeat_sources_1 = refl

r_repeat_effects_1 : effects r_repeat_tree (reverse r_repeat_run.moments) (place 3 11, 1) ≡ site 2 12 1 ∷ site 2 16 1 ∷ site 2 14 1 ∷ site 3 10 1 ∷ []
unfolding is_utf8 chars encode_utf8 level
r_repeat_effects_1 = refl

r_repeat_sources_2 : sources r_repeat_tree (reverse r_repeat_run.moments) (place 2 16, 1) ≡ site 3 11 1 ∷ []
unfolding is_utf8 chars encode_utf8 level
r_repeat_sources_2 = refl

r_repeat_effects_2 : effects r_repeat_tree (reverse r_repeat_run.moments) (place 2 16, 1) ≡ site 2 14 1 ∷ site 3 10 1 ∷ []
unfolding is_utf8 chars encode_utf8 level
r_repeat_effects_2 = refl
