-- What is told of a sheet in both forms.
pub mod Account
