-- Definitions of the window.
pub mod Window
