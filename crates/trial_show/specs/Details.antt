-- What is amiss of a trial, in words (this project's profile).
use Rattle.std.specs.Prelude.{ℕ, List, ◌++◌, codes}
use Rattle.std.specs.Fmt.{decimal}
use Rattle.trial_show.specs.Shown.{digits}
use Rattle.trial_tables.specs.declared.damage.Damage.{Damage}
use Rattle.trial_tables.specs.declared.damage.Damage.TheVariants.{Path, PageDigest, PageAbsent, RowAt, ContentDigest, ContentAbsent, RecordAt, ScriptAt}

abbrev pub detail : Damage → List ℕ
detail Path = codes "path"
detail (PageDigest page kept found) = codes "page " ++ decimal page ++ codes " kept " ++ digits kept ++ codes " found " ++ digits found
detail (PageAbsent page) = codes "page " ++ decimal page ++ codes " absent"
detail (RowAt page byte) = codes "row at page " ++ decimal page ++ codes " byte " ++ decimal byte
detail (ContentDigest kept found) = codes "content " ++ digits kept ++ codes " found " ++ digits found
detail (ContentAbsent digest) = codes "content " ++ digits digest ++ codes " absent"
detail (RecordAt digest byte) = codes "record " ++ digits digest ++ codes " byte " ++ decimal byte
detail (ScriptAt at) = codes "script at " ++ decimal at.line ++ codes ":" ++ decimal at.col
