-- The characters of ASCII that texts, names and messages give a meaning, each by a name. A letter is `upper_..` or
-- `lower_..` by its case.
use Rattle.std.specs.Prelude.{ℕ}

abbrev pub tab : ℕ
tab = 9

abbrev pub line_feed : ℕ
line_feed = 10

abbrev pub carriage_return : ℕ
carriage_return = 13

abbrev pub space : ℕ
space = 32

abbrev pub exclamation_mark : ℕ
exclamation_mark = 33

abbrev pub double_quote : ℕ
double_quote = 34

abbrev pub dollar_sign : ℕ
dollar_sign = 36

abbrev pub percent_sign : ℕ
percent_sign = 37

abbrev pub ampersand : ℕ
ampersand = 38

abbrev pub left_parenthesis : ℕ
left_parenthesis = 40

abbrev pub right_parenthesis : ℕ
right_parenthesis = 41

abbrev pub asterisk : ℕ
asterisk = 42

abbrev pub plus_sign : ℕ
plus_sign = 43

abbrev pub comma : ℕ
comma = 44

abbrev pub hyphen : ℕ
hyphen = 45

abbrev pub dot : ℕ
dot = 46

abbrev pub slash : ℕ
slash = 47

abbrev pub digit_zero : ℕ
digit_zero = 48

abbrev pub digit_one : ℕ
digit_one = 49

abbrev pub digit_two : ℕ
digit_two = 50

abbrev pub digit_three : ℕ
digit_three = 51

abbrev pub digit_four : ℕ
digit_four = 52

abbrev pub digit_seven : ℕ
digit_seven = 55

abbrev pub digit_nine : ℕ
digit_nine = 57

abbrev pub colon : ℕ
colon = 58

abbrev pub at_sign : ℕ
at_sign = 64

abbrev pub upper_a : ℕ
upper_a = 65

abbrev pub upper_b : ℕ
upper_b = 66

abbrev pub upper_c : ℕ
upper_c = 67

abbrev pub upper_d : ℕ
upper_d = 68

abbrev pub upper_e : ℕ
upper_e = 69

abbrev pub upper_g : ℕ
upper_g = 71

abbrev pub upper_h : ℕ
upper_h = 72

abbrev pub upper_i : ℕ
upper_i = 73

abbrev pub upper_k : ℕ
upper_k = 75

abbrev pub upper_n : ℕ
upper_n = 78

abbrev pub upper_p : ℕ
upper_p = 80

abbrev pub upper_q : ℕ
upper_q = 81

abbrev pub upper_s : ℕ
upper_s = 83

abbrev pub upper_t : ℕ
upper_t = 84

abbrev pub upper_u : ℕ
upper_u = 85

abbrev pub upper_x : ℕ
upper_x = 88

abbrev pub upper_z : ℕ
upper_z = 90

abbrev pub left_bracket : ℕ
left_bracket = 91

abbrev pub backslash : ℕ
backslash = 92

abbrev pub right_bracket : ℕ
right_bracket = 93

abbrev pub underscore : ℕ
underscore = 95

abbrev pub lower_a : ℕ
lower_a = 97

abbrev pub lower_c : ℕ
lower_c = 99

abbrev pub lower_d : ℕ
lower_d = 100

abbrev pub lower_e : ℕ
lower_e = 101

abbrev pub lower_f : ℕ
lower_f = 102

abbrev pub lower_n : ℕ
lower_n = 110

abbrev pub lower_p : ℕ
lower_p = 112

abbrev pub lower_r : ℕ
lower_r = 114

abbrev pub lower_s : ℕ
lower_s = 115

abbrev pub lower_t : ℕ
lower_t = 116

abbrev pub lower_x : ℕ
lower_x = 120

abbrev pub left_brace : ℕ
left_brace = 123

abbrev pub vertical_bar : ℕ
vertical_bar = 124

abbrev pub right_brace : ℕ
right_brace = 125
