pub mod Importer
