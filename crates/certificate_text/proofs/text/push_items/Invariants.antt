-- What is written, with the items that are left, is the whole list, and so are numbers.
use Rattle.std.proofs.Common.{◌≡◌, ◌++◌, false, drop, map}
use Rattle.json.specs.Tree.{ItemsHaveNumbers}
use Rattle.serde_json.specs.View.{items_of}
use Rattle.serde_json.specs.Written.{items_outline, items_text}
use Rattle.certificate_text.specs.Told.{item_data}
use Rattle.certificate_text.proofs.text.push_items.Given as goal

abbrev pub invariant-loop-item : goal.invariant-loop-item
invariant-loop-item l = record {
  whole : l.out.items ++ items_text l.later (items_of (map item_data (drop l.item-index l.items))) ≡ l.fn.out.items ++ items_text false (items_of (map item_data l.items));
  numbers : ItemsHaveNumbers (items_outline (items_of (map item_data (drop l.item-index l.items)))) → ItemsHaveNumbers (items_outline (items_of (map item_data l.items)));
}
