-- Records and lists of names that grow.
use Rattle.std.specs.Prelude.{List, map}
use Rattle.serde_json.specs.Data.{Data, Members}
use Rattle.serde_json.specs.View.{view, members_view}
use Rattle.record_writing.specs.declared.fields.Fields.{Fields}
use Rattle.record_writing.specs.declared.names.Names.{Names}

-- the members that were put
abbrev pub fields_in : Fields → Members
fields_in fields = members_view fields.members.entries

-- the names that were added
abbrev pub names_in : Names → List Data
names_in names = map view names.list.items
