-- An injective encoding of JSON values as trees of numbers, so that JSON values can be the model of a type.
use Rattle.std.specs.Prelude.{◌≡◌, ℕ, List}
use Rattle.std.proofs.Common.{refl, ap, ap₂, arith}
use Rattle.std.specs.Coded.{Coded, coded_ℕ, coded_ℤ, coded_bool, coded_list}
use base.Stored.{Gv, gnil, gnum, gcons, coded_float}
use Rattle.serde_json.specs.Data.{Num, unsigned, negative, float, Data, null, boolean, number, string, array, object, Items, no_items, item, Members}
use Rattle.serde_json.specs.Data.{no_members, member}

abbrev left : Gv → Gv
left gnil = gnil
left (gnum n) = gnil
left (gcons a b) = a

abbrev right : Gv → Gv
right gnil = gnil
right (gnum n) = gnil
right (gcons a b) = b

abbrev tag_of : Gv → ℕ
tag_of gnil = 0
tag_of (gnum n) = n
tag_of (gcons a b) = 0

abbrev tag : Gv → ℕ
tag g = tag_of (left g)

abbrev text_code : Coded (List ℕ)
text_code = coded_list coded_ℕ

abbrev pub num_tree : Num → Gv
num_tree (unsigned n) = gcons (gnum 0) (coded_ℕ.code n)
num_tree (negative z) = gcons (gnum 1) (coded_ℤ.code z)
num_tree (float x) = gcons (gnum 2) (coded_float.code x)

abbrev mutual
  pub data_tree : Data → Gv
  data_tree null = gcons (gnum 0) gnil
  data_tree (boolean b) = gcons (gnum 1) (coded_bool.code b)
  data_tree (number n) = gcons (gnum 2) (num_tree n)
  data_tree (string s) = gcons (gnum 3) (text_code.code s)
  data_tree (array ds) = gcons (gnum 4) (items_tree ds)
  data_tree (object ms) = gcons (gnum 5) (members_tree ms)

  pub items_tree : Items → Gv
  items_tree no_items = gcons (gnum 0) gnil
  items_tree (item d ds) = gcons (gnum 1) (gcons (data_tree d) (items_tree ds))

  pub members_tree : Members → Gv
  members_tree no_members = gcons (gnum 0) gnil
  members_tree (member k d ms) = gcons (gnum 1) (gcons (text_code.code k) (gcons (data_tree d) (members_tree ms)))

num_inj : (x y : Num) → num_tree x ≡ num_tree y → x ≡ y
num_inj (unsigned a) (unsigned b) p = ap unsigned (coded_ℕ.inj a b (ap right p))
num_inj (negative a) (negative b) p = ap negative (coded_ℤ.inj a b (ap right p))
num_inj (float a) (float b) p = ap float (coded_float.inj a b (ap right p))
num_inj x y p = absurd (omega (arith, ap tag p))

same_member : {k l : List ℕ} {d e : Data} {ms ns : Members} → k ≡ l → d ≡ e → ms ≡ ns → member k d ms ≡ member l e ns
same_member p q r = cc

mutual
  data_inj : (x y : Data) → data_tree x ≡ data_tree y → x ≡ y
  data_inj null null p = refl
  data_inj (boolean a) (boolean b) p = ap boolean (coded_bool.inj a b (ap right p))
  data_inj (number a) (number b) p = ap number (num_inj a b (ap right p))
  data_inj (string a) (string b) p = ap string (text_code.inj a b (ap right p))
  data_inj (array a) (array b) p = ap array (items_inj a b (ap right p))
  data_inj (object a) (object b) p = ap object (members_inj a b (ap right p))
  data_inj x y p = absurd (omega (arith, ap tag p))

  items_inj : (x y : Items) → items_tree x ≡ items_tree y → x ≡ y
  items_inj no_items no_items p = refl
  items_inj (item d ds) (item e es) p = ap₂ item (data_inj d e (ap (λ g. left (right g)) p)) (items_inj ds es (ap (λ g. right (right g)) p))
  items_inj x y p = absurd (omega (arith, ap tag p))

  pub members_inj : (x y : Members) → members_tree x ≡ members_tree y → x ≡ y
  members_inj no_members no_members p = refl
  members_inj (member k d ms) (member l e ns) p =
      same_member (text_code.inj k l (ap (λ g. left (right g)) p)) (data_inj d e (ap (λ g. left (right (right g))) p))
      (members_inj ms ns (ap (λ g. right (right (right g))) p))
  members_inj x y p = absurd (omega (arith, ap tag p))

abbrev pub members_code : Coded Members
members_code = record { code = members_tree; inj = members_inj }
