-- A claim that is a string, or has its text in another form.
use Rattle.std.proofs.Common.{◌≡◌, inl, inr, ℕ, List, Option, Some, None, option_map, option_and_then, Ok, Err, refl, sym, ap, ◌∙◌}
use Rattle.std.specs.Option.{option_or}
use Rattle.serde_json.specs.Data.{Data, null, boolean, number, string, array, object}
use Rattle.serde_json.specs.Find.{as_str}
use Rattle.claim_set.specs.Kinds.{of_kind, kind_found}
use Rattle.claim_set.specs.declared.no.ClaimNo.{ClaimNo}
use Rattle.request_object.specs.Reading.{digits_in, object_text, text_or}
use Rattle.request_object.specs.Object.{StandsAs}

-- ---- what is found where it is no string

found_text : (name : List ℕ) (q r v : Option (List ℕ)) → kind_found name q ≡ Ok v → kind_found name (option_or q r) ≡ Ok v
found_text name None r v h = absurd (cc)
found_text name (Some s) r v h = h

pub a_string : (other : Data → Option (List ℕ)) (name : List ℕ) (o : Option Data) (v : Option (List ℕ)) → of_kind name o as_str ≡ Ok v → of_kind name o (text_or other) ≡ Ok v
a_string other name None v h = h
a_string other name (Some d) v h = found_text name (as_str d) (other d) v h

found_other : (name s : List ℕ) (q r : Option (List ℕ)) (e : ClaimNo) → kind_found name q ≡ Err e → r ≡ Some s → kind_found name (option_or q r) ≡ Ok (Some s)
found_other name s None r e h is = rw (is) refl
found_other name s (Some t) r e h is = absurd (cc)

pub another_form : (other : Data → Option (List ℕ)) (name s : List ℕ) (o : Option Data) (e : ClaimNo) → of_kind name o as_str ≡ Err e → option_and_then other o ≡ Some s → of_kind name o (text_or other) ≡ Ok (Some s)
another_form other name s None e h is = absurd (cc)
another_form other name s (Some d) e h is = found_other name s (as_str d) (other d) e h is

found_none : (name : List ℕ) (q r : Option (List ℕ)) (e : ClaimNo) → kind_found name q ≡ Err e → r ≡ None → kind_found name (option_or q r) ≡ Err e
found_none name None r e h is = rw (is) h
found_none name (Some t) r e h is = absurd (cc)

pub no_form : (other : Data → Option (List ℕ)) (name : List ℕ) (o : Option Data) (e : ClaimNo) → of_kind name o as_str ≡ Err e → option_and_then other o ≡ None → of_kind name o (text_or other) ≡ Err e
no_form other name None e h is = absurd (cc)
no_form other name (Some d) e h is = found_none name (as_str d) (other d) e h is

-- ---- what stands there is read

-- the other form is of no string
pub no_digits : (d : Data) (s : List ℕ) → digits_in d ≡ Some s → as_str d ≡ None
no_digits null s h = refl
no_digits (boolean b) s h = refl
no_digits (number n) s h = refl
no_digits (string t) s h = absurd (cc)
no_digits (array ds) s h = refl
no_digits (object ms) s h = refl

pub no_object : (d : Data) (s : List ℕ) → object_text d ≡ Some s → as_str d ≡ None
no_object null s h = refl
no_object (boolean b) s h = refl
no_object (number n) s h = refl
no_object (string t) s h = absurd (cc)
no_object (array ds) s h = refl
no_object (object ms) s h = refl

pub read_form : (other : Data → Option (List ℕ)) → ((d : Data) (s : List ℕ) → other d ≡ Some s → as_str d ≡ None) → (name : List ℕ) (o : Option Data) (v : Option (List ℕ)) → StandsAs other o v → of_kind name o (text_or other) ≡ Ok v
read_form other apart name None v h = ap Ok (sym h)
read_form other apart name (Some d) None h = absurd h
read_form other apart name (Some d) (Some s) (inl is) = rw (is) refl
read_form other apart name (Some d) (Some s) (inr is) = rw (apart d s is, is) refl

-- ---- what is read stands there

found_form : (other : Data → Option (List ℕ)) (name : List ℕ) (d : Data) (q : Option (List ℕ)) → other d ≡ q → (v : Option (List ℕ)) → kind_found name q ≡ Ok v → StandsAs other (Some d) v
found_form other name d None is v h = absurd (cc)
found_form other name d (Some s) is None h = absurd (cc)
found_form other name d (Some s) is (Some t) h = inr (is ∙ cc)

found_string : (other : Data → Option (List ℕ)) (name s : List ℕ) (v : Option (List ℕ)) → kind_found name (Some s) ≡ Ok v → StandsAs other (Some (string s)) v
found_string other name s None h = absurd (cc)
found_string other name s (Some t) h = inl (ap string (cc))

pub stands_form : (other : Data → Option (List ℕ)) (name : List ℕ) (o : Option Data) (v : Option (List ℕ)) → of_kind name o (text_or other) ≡ Ok v → StandsAs other o v
stands_form other name None v h = cc
stands_form other name (Some null) v h = found_form other name null (other null) refl v h
stands_form other name (Some (boolean b)) v h = found_form other name (boolean b) (other (boolean b)) refl v h
stands_form other name (Some (number n)) v h = found_form other name (number n) (other (number n)) refl v h
stands_form other name (Some (string s)) v h = found_string other name s v h
stands_form other name (Some (array ds)) v h = found_form other name (array ds) (other (array ds)) refl v h
stands_form other name (Some (object ms)) v h = found_form other name (object ms) (other (object ms)) refl v h

-- a string that was written stands there
pub written_form : (other : Data → Option (List ℕ)) (v : Option (List ℕ)) → StandsAs other (option_map string v) v
written_form other None = refl
written_form other (Some s) = inl refl
