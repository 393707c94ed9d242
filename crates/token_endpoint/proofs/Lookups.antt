-- Values that were looked up and found.
use Rattle.std.proofs.Common.{◌≡◌, Option, Some, None, option_map, option_and_then, is_some, is_none, true, false, refl}

pub and_found : {A B : Type 0} (o : Option A) (f : A → Option B) (v : B) → option_and_then f o ≡ Some v → (a : A) × (o ≡ Some a) × (f a ≡ Some v)
and_found None f v h = absurd (cc)
and_found (Some a) f v h = (a, refl, h)

pub map_found : {A B : Type 0} (o : Option A) (f : A → B) (v : B) → option_map f o ≡ Some v → (a : A) × (o ≡ Some a) × (f a ≡ v)
map_found None f v h = absurd (cc)
map_found (Some a) f v h = (a, refl, cc)

pub none_of : {A : Type 0} (o : Option A) → is_some o ≡ false → o ≡ None
none_of None h = refl
none_of (Some a) h = absurd (cc)

pub some_of : {A : Type 0} (o : Option A) → is_some o ≡ true → (a : A) × (o ≡ Some a)
some_of None h = absurd (cc)
some_of (Some a) h = (a, refl)

pub there_of : {A : Type 0} (o : Option A) → is_none o ≡ false → (a : A) × (o ≡ Some a)
there_of None h = absurd (cc)
there_of (Some a) h = (a, refl)

pub nowhere_of : {A : Type 0} (o : Option A) → is_none o ≡ true → o ≡ None
nowhere_of None h = refl
nowhere_of (Some a) h = absurd (cc)
