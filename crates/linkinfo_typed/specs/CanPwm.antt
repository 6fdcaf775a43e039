-- Written by tables/generate from tables/canpwm.
-- The rows of `IFLA_CAN_XL_PWM` of a `can` link.
use Rattle.std.specs.Prelude.{false, List, [], ◌∷◌, refl}
use Rattle.nla_frame.specs.Attribute.{Attribute}
use Rattle.nla_frame.specs.Kept.{attribute_of}
use Rattle.nla_frame.specs.Pairs.{◌&◌}
use Rattle.nla_frame.specs.declared.error.Family.TheVariants as family
use Rattle.linkinfo_table.specs.ByRows.{members_with, table_is_family}
use Rattle.linkinfo_table.specs.Contents.{single_value}
use Rattle.linkinfo_table.specs.FamilyRows.{PlainRow, row, table_row, typed, EachKeeps}
use Rattle.linkinfo_table.specs.Members.{IsFamily, Members}
use Rattle.linkinfo_shapes.specs.declared.shape.Shape.TheVariants.{Le32}
use Rattle.linkinfo_table.specs.Labels.{each_keeps}
use Rattle.linkinfo_typed.specs.declared.can_pwm.CanPwm.{CanPwm}
use Rattle.linkinfo_typed.specs.declared.can_pwm.CanPwm.TheVariants.{
  PwmsMin,
  PwmsMax,
  PwmlMin,
  PwmlMax,
  PwmoMin,
  PwmoMax,
  Pwms,
  Pwml,
  Pwmo,
  Other,
}

abbrev pub can_pwm_rows : List (PlainRow CanPwm)
can_pwm_rows =
    row 1 Le32 (λ n. PwmsMin n) ∷
    row 2 Le32 (λ n. PwmsMax n) ∷
    row 3 Le32 (λ n. PwmlMin n) ∷
    row 4 Le32 (λ n. PwmlMax n) ∷
    row 5 Le32 (λ n. PwmoMin n) ∷
    row 6 Le32 (λ n. PwmoMax n) ∷
    row 7 Le32 (λ n. Pwms n) ∷
    row 8 Le32 (λ n. Pwml n) ∷
    row 9 Le32 (λ n. Pwmo n) ∷
    []

abbrev pub can_pwm_attribute : CanPwm → Attribute
can_pwm_attribute (PwmsMin n) = typed 1 Le32 n
can_pwm_attribute (PwmsMax n) = typed 2 Le32 n
can_pwm_attribute (PwmlMin n) = typed 3 Le32 n
can_pwm_attribute (PwmlMax n) = typed 4 Le32 n
can_pwm_attribute (PwmoMin n) = typed 5 Le32 n
can_pwm_attribute (PwmoMax n) = typed 6 Le32 n
can_pwm_attribute (Pwms n) = typed 7 Le32 n
can_pwm_attribute (Pwml n) = typed 8 Le32 n
can_pwm_attribute (Pwmo n) = typed 9 Le32 n
can_pwm_attribute (Other nla) = attribute_of nla

pub can_pwm_keeps : EachKeeps can_pwm_attribute can_pwm_rows
can_pwm_keeps = each_keeps can_pwm_attribute can_pwm_rows refl
    ((λ n. refl)
    & (λ n. refl)
    & (λ n. refl)
    & (λ n. refl)
    & (λ n. refl)
    & (λ n. refl)
    & (λ n. refl)
    & (λ n. refl)
    & (λ n. refl)
    & tt)

-- what the family defines, and that it is lawful
abbrev pub can_pwm_members : Members CanPwm
can_pwm_members =
    members_with family.CanPwm (λ d. Other d) can_pwm_attribute
    (λ n. table_row can_pwm_rows n) (λ _. 0) (λ _. single_value) false

pub can_pwm_lawful : IsFamily can_pwm_members
can_pwm_lawful =
    table_is_family family.CanPwm (λ d. Other d) can_pwm_attribute
    can_pwm_rows can_pwm_keeps (λ _. refl)
