-- Pairs by an operator, so that pairs nested to the right read as a list with one entry a line.
infixr 12 ◌&◌
pub ◌&◌ {ℓ κ} : {A : Type ℓ} {B : Type κ} → A → B → A × B
a & b = (a, b)
