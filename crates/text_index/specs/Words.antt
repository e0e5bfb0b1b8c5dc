-- Which characters make words (The Unicode Standard, general categories).
use Rattle.std.specs.Prelude.{ℕ, Bool, ◌||◌, ◌==◌}
use Rattle.ucd_category.specs.GeneralCategory.{general_category, general_category_eq}
use Rattle.ucd_category.specs.GeneralCategoryGroup.{in_group}
use Rattle.ucd_category.specs.declared.GeneralCategory.TheVariants.{DecimalNumber}
use Rattle.ucd_category.specs.declared.GeneralCategoryGroup.TheVariants.{Letter}

-- a letter or a decimal digit of any script, or an underscore
abbrev pub is_word : ℕ → Bool
is_word c = in_group Letter (general_category c) || general_category_eq (general_category c) DecimalNumber || c == 95
