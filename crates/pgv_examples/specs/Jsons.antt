-- Documents of json and jsonb (PostgreSQL: "JSON Types", 8.14): in binary those of jsonb have the version 1 in front.
use Rattle.std.specs.Prelude.{◌≡◌, ◌==◌, ◌||◌, ℕ, Bool, true, false, if◌then◌else◌, codes, List, [], ◌∷◌, ◌++◌, Option, Some, None, refl, string_bytes}
use Rattle.std.proofs.Common.{sym, ap, ◌∙◌, subst}
use Rattle.std.proofs.lemmas.Option.{same_Some}
use Rattle.pgv.specs.Words.{Ty, builtin, softly, space, Token, slot, bytes, Image, ImageFits, Given, Outcome, Part, Binary, PlainRules, ReadsBack, always, copied, image_of, parse_text, plainly, reading_of, utf8_part, write, writes, written_part}
use Rattle.pgv.specs.Lemmas.{part_is, text_back, write-bytes}
use Rattle.pgv_examples.specs.declared.json.Json.{Json}

-- the version where the parameter is jsonb, and else a space; and the text
abbrev pub json_tokens : List ℕ → List Token
json_tokens text = slot (codes " ") ((builtin 3802, 1 ∷ []) ∷ []) ∷ bytes text

abbrev pub json_image : List ℕ → Outcome Image
json_image text = writes (Some (image_of (json_tokens text)))

-- what comes after a version, or after the space in its place
abbrev pub after_version : List ℕ → List ℕ
after_version [] = []
after_version (byte ∷ text) = if byte == 1 || byte == space then text else byte ∷ text

abbrev pub document : Part → Part
document None = None
document (Some form) = Some (after_version form)

-- the text, in either format
abbrev pub parse_json : Given → Outcome (List ℕ)
parse_json v = copied (utf8_part (document v.bytes))

-- whichever case the slot shows
pub json_back : ReadsBack {A = Json} (λ json. plainly (json_image (string_bytes json.0))) (reading_of parse_json) (λ json. string_bytes json.0) always
json_back json i t p oids e whole small fit = rw (← is) (by_parameter p)
  where
    text : List ℕ
    text = string_bytes json.0

    is : image_of (json_tokens text) ≡ i
    is = same_Some _ i e

    -- the text by itself is read as it is
    again : reading_of parse_text t Binary (Some text) ≡ Some text
    again =
        ap (λ (part : Part). reading_of parse_text t Binary part) (sym (part_is text (image_of (bytes text)) p oids refl))
        ∙ text_back json.0 (image_of (bytes text)) t p oids refl (subst ImageFits (sym is) whole).1 small fit

    written : (q : Option Ty) → reading_of parse_text t Binary (Some (write q oids (bytes text))) ≡ Some text
    written q = ap (λ (xs : List ℕ). reading_of parse_text t Binary (Some xs)) (write-bytes q oids text) ∙ again

    by_case : (q : Option Ty) (b : Bool) → reading_of parse_json t Binary (Some ((if b then 1 ∷ [] else codes " ") ++ write q oids (bytes text))) ≡ Some text
    by_case q true = written q
    by_case q false = written q

    by_parameter : (q : Option Ty) → reading_of parse_json t Binary (written_part (image_of (json_tokens text)) q oids) ≡ Some text
    by_parameter None = written None
    by_parameter (Some param) = by_case (Some param) (softly (builtin 3802) param)

abbrev pub json_rules : PlainRules Json
json_rules = record {
  info = builtin 114;
  array_info = builtin 199;
  accepts = λ t. softly t (builtin 114) || softly t (builtin 3802);
  View = List ℕ;
  view = λ json. string_bytes json.0;
  image = json_image;
  parse = parse_json;
  null = λ _ _. refl;
  back = json_back;
}
