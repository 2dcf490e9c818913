-- What is kept of a content that is read whole and written whole (this project's profile).
use Rattle.std.specs.Prelude.{Option, Some, None}
use Rattle.py_value.specs.declared.access.Content.{Content}
use Rattle.py_value.specs.declared.access.Content.TheVariants.{Var, Len, Item, Entry, Order, File, Offset, Closed, Method, Base}
use Rattle.object_store.specs.declared.cell.Cell.{Cell}
use Rattle.object_store.specs.declared.cell.Cell.TheVariants.{Var as VarCell, Len as LenCell, Entry as EntryCell, Offset as OffsetCell, Closed as ClosedCell, Method as MethodCell, Base as BaseCell}

abbrev pub content_of : Cell → Content
content_of (VarCell value) = Var value
content_of (LenCell len) = Len len
content_of (EntryCell entry) = Entry entry
content_of (OffsetCell offset) = Offset offset
content_of (ClosedCell is_closed) = Closed is_closed
content_of (MethodCell place) = Method place
content_of (BaseCell base) = Base base

abbrev pub cell_of : Content → Option Cell
cell_of (Var value) = Some (VarCell value)
cell_of (Len len) = Some (LenCell len)
cell_of (Item value) = None
cell_of (Entry entry) = Some (EntryCell entry)
cell_of (Order keys) = None
cell_of (File text) = None
cell_of (Offset offset) = Some (OffsetCell offset)
cell_of (Closed is_closed) = Some (ClosedCell is_closed)
cell_of (Method place) = Some (MethodCell place)
cell_of (Base base) = Some (BaseCell base)
