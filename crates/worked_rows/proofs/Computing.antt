-- All that rows are computed with, as one name; tests/definition/worked_rows.py writes it.
use Rattle.std.specs.Prelude.{⊤}
use Rattle.keyline.specs.Events.{session}
use Rattle.line_buffer.specs.Columns.{cursor_column, line_down, line_up, place_at_column, place_in_row}
use Rattle.line_buffer.specs.Event.{line_after_events}
use Rattle.line_buffer.specs.Hits.{chars_placed}
use Rattle.line_buffer.specs.Indent.{row_events}
use Rattle.line_buffer.specs.Rows.{behind_newlines}
use Rattle.line_buffer.specs.Transpositions.{after_words, before_words}
use Rattle.line_editor.specs.LineScripts.{line_script, turn_script, turns_script}
use Rattle.line_keys.specs.Common.{common_action}
use Rattle.line_keys.specs.Counts.{rest_of_count}
use Rattle.line_keys.specs.CustomKeys.{key_sequence, rest_of_sequence}
use Rattle.line_keys.specs.Emacs.{emacs_action}
use Rattle.line_keys.specs.PhraseScripts.{and_then, answer_part, from_key, keep_then, memory_then, reply_then, show_then, with_read}
use Rattle.line_keys.specs.Vi.{command_table, insert_table, vi_command, vi_counted, vi_insert}
use Rattle.line_keys.specs.ViTables.{action_of, insert_action, motion_of}
use Rattle.line_record.specs.RecordCourse.{record_after_events}
use Rattle.std.specs.Fmt.{digits}
use Rattle.std.specs.Fmt.Cut.{floor_char_boundary}
use Rattle.std.specs.Str.{chars, is_utf8}
use Rattle.ucd_bidi.specs.JoiningGroup.{joining_group}
use Rattle.ucd_bidi.specs.JoiningGroupRows.{joining_group_rows}
use Rattle.ucd_bidi.specs.JoiningType.{joining_type}
use Rattle.ucd_bidi.specs.JoiningTypeRows.{joining_type_rows}
use Rattle.ucd_breaks.specs.GraphemeClusterBreak.{grapheme_cluster_break}
use Rattle.ucd_breaks.specs.GraphemeClusterBreakRows.{grapheme_cluster_break_rows}
use Rattle.ucd_breaks.specs.LineBreak.{line_break}
use Rattle.ucd_breaks.specs.LineBreakRows.{line_break_rows}
use Rattle.ucd_category.specs.GeneralCategory.{general_category}
use Rattle.ucd_category.specs.GeneralCategoryRows.{general_category_rows}
use Rattle.ucd_derived.specs.AlphabeticRanges.{alphabetic_ranges}
use Rattle.ucd_derived.specs.Binary.{is_alphabetic, is_default_ignorable_code_point, is_grapheme_extend}
use Rattle.ucd_derived.specs.DefaultIgnorableCodePointRanges.{default_ignorable_code_point_ranges}
use Rattle.ucd_derived.specs.GraphemeExtendRanges.{grapheme_extend_ranges}
use Rattle.ucd_derived.specs.IndicConjunctBreak.{indic_conjunct_break}
use Rattle.ucd_derived.specs.IndicConjunctBreakRows.{indic_conjunct_break_rows}
use Rattle.ucd_east_asian.specs.EastAsianWidth.{east_asian_width}
use Rattle.ucd_east_asian.specs.EastAsianWidthRows.{east_asian_width_rows}
use Rattle.ucd_east_asian.specs.HangulSyllableType.{hangul_syllable_type}
use Rattle.ucd_east_asian.specs.HangulSyllableTypeRows.{hangul_syllable_type_rows}
use Rattle.ucd_emoji.specs.Binary.{is_emoji_modifier, is_emoji_modifier_base, is_emoji_presentation, is_emoji_variation_base, is_extended_pictographic}
use Rattle.ucd_emoji.specs.Ranges.{emoji_modifier_base_ranges, emoji_modifier_ranges, emoji_presentation_ranges, emoji_variation_base_ranges, extended_pictographic_ranges}
use Rattle.ucd_normal.specs.CanonicalCombiningClass.{canonical_combining_class}
use Rattle.ucd_normal.specs.CanonicalCombiningClassRows.{canonical_combining_class_rows}
use Rattle.ucd_normal.specs.Decomposition.{canonical_decomposition, decomposition, expand}
use Rattle.ucd_normal.specs.DecompositionRows.{decomposition_rows}
use Rattle.ucd_props.specs.Binary.{is_prepended_concatenation_mark, is_regional_indicator}
use Rattle.ucd_props.specs.Ranges.{prepended_concatenation_mark_ranges, regional_indicator_ranges}
use Rattle.ucd_table.specs.Rows.{in_ranges, value_in}
use Rattle.unicode_segmentation.specs.Grapheme.{ends_in_half_flag, ends_in_linker, ends_in_pictograph, is_grapheme_break}
use Rattle.unicode_segmentation.specs.Segments.{cut, segments, with_offsets}
use Rattle.unicode_width.specs.Kind.{is_ambiguous, is_ambiguous_symbol, is_jamo_after_lead, is_ligature_transparent, is_marked_ambiguous, is_overlaid, is_prepended, is_solidus_transparent, is_text_presentation_base, is_wide, is_zero_width, kind, letter_kind, named_kind, named_rows, unnamed_kind, width_kind}
use Rattle.unicode_width.specs.Width.{alone, before_alef, char_width, in_context, joins, past_emoji, past_selectors, step, str_width}
use lib.Utf8.{encode}

unfoldable pub computing : ⊤
unfolding session cursor_column line_down line_up place_at_column place_in_row line_after_events chars_placed row_events behind_newlines after_words before_words line_script turn_script turns_script common_action rest_of_count key_sequence rest_of_sequence emacs_action and_then answer_part from_key keep_then memory_then reply_then show_then with_read command_table insert_table vi_command vi_counted vi_insert action_of insert_action motion_of record_after_events digits floor_char_boundary chars is_utf8 joining_group joining_group_rows joining_type joining_type_rows grapheme_cluster_break grapheme_cluster_break_rows line_break line_break_rows general_category general_category_rows alphabetic_ranges is_alphabetic is_default_ignorable_code_point is_grapheme_extend default_ignorable_code_point_ranges grapheme_extend_ranges indic_conjunct_break indic_conjunct_break_rows east_asian_width east_asian_width_rows hangul_syllable_type hangul_syllable_type_rows is_emoji_modifier is_emoji_modifier_base is_emoji_presentation is_emoji_variation_base is_extended_pictographic emoji_modifier_base_ranges emoji_modifier_ranges emoji_presentation_ranges emoji_variation_base_ranges extended_pictographic_ranges canonical_combining_class canonical_combining_class_rows canonical_decomposition decomposition expand decomposition_rows is_prepended_concatenation_mark is_regional_indicator prepended_concatenation_mark_ranges regional_indicator_ranges in_ranges value_in ends_in_half_flag ends_in_linker ends_in_pictograph is_grapheme_break cut segments with_offsets is_ambiguous is_ambiguous_symbol is_jamo_after_lead is_ligature_transparent is_marked_ambiguous is_overlaid is_prepended is_solidus_transparent is_text_presentation_base is_wide is_zero_width kind letter_kind named_kind named_rows unnamed_kind width_kind alone before_alef char_width in_context joins past_emoji past_selectors step str_width encode
computing = tt
