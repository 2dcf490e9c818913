-- Lists of values as contents see them, and parts of plans that several operations share.
use Rattle.std.specs.Prelude.{List, map}
use Rattle.py_value.specs.Contents.{Contents, contents}
use Rattle.py_value.specs.Values.{ValuesView}
use Rattle.py_value.specs.declared.value.Value.{Value}

abbrev pub values_seen : ValuesView → List Value → List Contents
values_seen table items = map (contents table) items
